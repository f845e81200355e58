use Rattle.fusion_core.specs.TouchNext.{sized}
use Rattle.fusion_core.proofs.TouchChain.{IsBefore}
use Rattle.fusion_core.proofs.touch.seat.Seat.is_next.Given as goal

abbrev pub invariant-loop-i : goal.invariant-loop-i
invariant-loop-i l = IsBefore (sized l.table.buckets l.table.nodes) l.self.seat.seen l.key l.word l.i
