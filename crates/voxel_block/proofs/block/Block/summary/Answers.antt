use Rattle.std.proofs.Common.{ap, arith, rules, ◌∙◌}
use Rattle.std.specs.Prelude.{unsigned_abs}
use Rattle.std.specs.Int.{w16}
use Rattle.std.proofs.lemmas.Int.{to_z-of_z}
use Rattle.voxel_block.proofs.SummaryLemmas.{flag_at_most_1, summarized_none, summarized_more, summarized_all}
use Rattle.voxel_block.proofs.block.Block.summary.Goals as goal

pub loop-i-init : goal.loop-i-init
loop-i-init c = summarized_none c.args.self.now

pub overflow_add-known : goal.overflow_add-known
overflow_add-known c = let e = flag_at_most_1 c.from-known.result c.is_known.result c.from-known.ensures in let few = c.loop-i.invariant.few in omega arith

pub loop-i-preserved : goal.loop-i-preserved
loop-i-preserved c =
    summarized_more c.args.self.now c.loop-i.i c.get-voxel.result c.loop-i.known c.loop-i.least c.from-known.result c.unsigned_abs.result c.min-least.result c.is_known.result c.get-voxel.ensures.count (omega arith) c.get-voxel.ensures.value c.get-voxel.ensures.voxel
    c.is_known.ensures c.from-known.ensures (c.unsigned_abs.ensures.value ∙ ap unsigned_abs (to_z-of_z w16 c.get-voxel.result.f (search rules))) c.min-least.ensures c.loop-i.invariant

pub returns : goal.returns
returns c = summarized_all c.args.self.now c.loop-i.i c.loop-i.known c.loop-i.least (c.len-i-end.ensures.voxels ∙ omega arith) c.loop-i.invariant
