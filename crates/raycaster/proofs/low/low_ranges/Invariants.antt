use Rattle.raycaster.proofs.LowLemmas.{HaveCells}
use Rattle.raycaster.proofs.low.low_ranges.Given as goal

abbrev pub invariant-loop-cell : goal.invariant-loop-cell
invariant-loop-cell l = HaveCells l.camera l.pose l.rest.heap l.ranges l.cell
