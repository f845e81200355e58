use Rattle.std.proofs.Common.{◌≡◌, ◌+◌, ◌*◌, ap}
use Rattle.spatial_hash.specs.Table.{Table}
use Rattle.chunk_store.specs.Store.{Stored}
use Rattle.streamer.specs.Places.{Places}
use Rattle.streamer.specs.Seen.{seen}
use Rattle.streamer.proofs.NewPlaces.{new_blocks, new_placed}
use Rattle.streamer.proofs.rest.Rest.make.Goals as goal
use Rattle.streamer.proofs.rest.Rest.make.Goals.{After-make-store}

abbrev places : After-make-store → Places
places c = seen (record { hash = c.in_ok-hash.hash; heap = c.in_ok-heap.heap; store = c.make-store.result })

pub invariant_of-result : goal.invariant_of-result
invariant_of-result c =
    let nodes : c.in_ok-hash.hash.nodes ≡ 2 * c.args.cells + 65 = ap (λ (t : Table). t.nodes) c.in_ok-hash.ensures.table in
    new_placed (places c) c.in_ok-hash.ensures.map (ap (λ (s : Stored). s.contents) c.make-store.ensures) c.args.cells nodes c.in_ok-heap.ensures.value

pub returns-clause-placed : goal.returns-clause-placed
returns-clause-placed c = invariant_of-result c

pub returns-clause-blocks : goal.returns-clause-blocks
returns-clause-blocks c = new_blocks (places c) c.in_ok-hash.ensures.map (ap (λ (s : Stored). s.contents) c.make-store.ensures)
