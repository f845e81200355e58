use Rattle.streamer.specs.Seen.{seen}
use Rattle.streamer.proofs.Moves.{same_places}
use Rattle.streamer.proofs.rest.Rest.reserve_out.Goals as goal

pub invariant_of-self : goal.invariant_of-self
invariant_of-self c = same_places (seen c.self.inside) (seen (record { hash = c.self.inside.hash; heap = c.self.inside.heap; store = c.reserve_out.new.self })) c.self.invariant (λ i. c.self.inside.hash) (λ i. c.self.inside.heap) c.reserve_out.ensures.contents

pub returns-clause-placed : goal.returns-clause-placed
returns-clause-placed c = invariant_of-self c
