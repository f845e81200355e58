use Rattle.std.proofs.Common.{drop, length}
use Rattle.session.proofs.MovingLemmas.{Leaving}
use Rattle.session.proofs.moving.leave_all.Given as goal

abbrev pub invariant-loop-key : goal.invariant-loop-key
invariant-loop-key l = Leaving l.fn.rest l.rest l.keys (drop l.key-index l.keys) (length l.packs.items)
