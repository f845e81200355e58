use Rattle.std.proofs.Common.{◌<◌, List, [], ◌∷◌, length, arith, ap, ◌∙◌}
use Rattle.std.specs.FinSet.{contains}
use Rattle.voxel_block.specs.declared.key.BlockKey.{BlockKey}
use Rattle.voxel_block.specs.Chunks.{chunk_of}
use Rattle.chunk_store.proofs.Stores.{opens_each}
use Rattle.streamer.proofs.tests.send.Goals as goal

pub leave-requires-clause-opened : goal.leave-requires-clause-opened
leave-requires-clause-opened c =
    let one : List BlockKey = c.args.key ∷ [] in
    let lt : 0 < length one = omega arith in
    ap (λ s. contains s (chunk_of c.args.key)) c.in_ok-reserve_out.ensures.ok ∙ opens_each c.args.rest.now.store.opened one 0 c.args.key lt
