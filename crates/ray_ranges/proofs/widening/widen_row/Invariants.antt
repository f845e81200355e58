use Rattle.ray_ranges.proofs.RangeLemmas.{ColumnHas, IsDone}
use Rattle.ray_ranges.proofs.widening.widen_row.Given as goal

abbrev pub invariant-loop-column : goal.invariant-loop-column
invariant-loop-column l = IsDone l.shape l.fn.ranges l.ranges (ColumnHas l.shape l.row l.found.first l.found.last) l.found.left l.column
