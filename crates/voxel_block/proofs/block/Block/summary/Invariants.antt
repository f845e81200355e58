use Rattle.voxel_block.proofs.SummaryLemmas.{IsSummarized}
use Rattle.voxel_block.proofs.block.Block.summary.Given as goal

abbrev pub invariant-loop-i : goal.invariant-loop-i
invariant-loop-i l = IsSummarized l.self l.i l.known l.least
