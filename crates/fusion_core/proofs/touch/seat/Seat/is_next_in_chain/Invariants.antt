use Rattle.fusion_core.specs.TouchNext.{sized}
use Rattle.fusion_core.proofs.TouchChain.{IsAt}
use Rattle.fusion_core.proofs.touch.seat.Seat.is_next_in_chain.Given as goal

abbrev pub invariant-loop : goal.invariant-loop
invariant-loop l = IsAt (sized l.buckets l.nodes) l.self.seat.seen l.key l.word l.bucket l.counter l.link
