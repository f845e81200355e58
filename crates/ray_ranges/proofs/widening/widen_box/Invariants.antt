use Rattle.ray_ranges.proofs.RangeLemmas.{IsDone, RowHas}
use Rattle.ray_ranges.proofs.widening.widen_box.Given as goal

abbrev pub invariant-loop-row : goal.invariant-loop-row
invariant-loop-row l = IsDone l.shape l.fn.ranges l.ranges (RowHas l.shape l.found.left l.found.right l.found.first l.found.last) l.found.top l.row
