use Rattle.ray_ranges.proofs.RangeLemmas.{IsDone, SlabHas}
use Rattle.ray_ranges.proofs.widening.widen_tile.Given as goal

abbrev pub invariant-loop-w : goal.invariant-loop-w
invariant-loop-w l = IsDone l.shape l.fn.ranges l.ranges (SlabHas l.shape l.tile l.found.first l.found.last) l.low l.w
