-- What contracts see of the fields.
use Rattle.streamer.specs.declared.rest.Rest.TheInside.{Inside}
use Rattle.streamer.specs.Places.{Places}

-- the places with these fields
abbrev pub seen : Inside → Places
seen r = record { table = r.hash; heap = r.heap; store = r.store }
