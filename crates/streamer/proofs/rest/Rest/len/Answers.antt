use Rattle.std.proofs.Common.{◌≡◌, ◌+◌, sym, ap, ◌∙◌, arith}
use Rattle.std.specs.FinMap.{len}
use Rattle.spatial_hash.specs.Contents.{contents}
use Rattle.streamer.specs.Places.{blocks_of}
use Rattle.streamer.specs.Seen.{seen}
use Rattle.streamer.proofs.Counts.{len_blocks}
use Rattle.streamer.proofs.rest.Rest.len.Goals as goal

pub overflow_add-result : goal.overflow_add-result
overflow_add-result c = let b = c.len.ensures.bound in omega (arith, b)

pub returns-clause-blocks : goal.returns-clause-blocks
returns-clause-blocks c =
    let p = seen c.self.inside in
    let all = len_blocks p c.self.invariant in
    let heap : c.from.result ≡ len (contents c.self.inside.hash) = (let a = c.cell_count.ensures.value in let b = c.free_count.ensures.value in let n = c.self.invariant.count in omega arith) in
    (λ i. heap i + c.len.ensures.value i) ∙ sym all ∙ ap (λ q. len (blocks_of q)) c.self.view_is
