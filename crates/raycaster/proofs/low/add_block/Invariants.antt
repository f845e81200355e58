use Rattle.raycaster.proofs.LowLemmas.{HaveParts}
use Rattle.raycaster.proofs.low.add_block.Given as goal

abbrev pub invariant-loop-part : goal.invariant-loop-part
invariant-loop-part l = HaveParts l.fn.ranges l.ranges l.low l.key l.part
