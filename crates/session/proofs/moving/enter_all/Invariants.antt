use Rattle.std.proofs.Common.{drop}
use Rattle.session.proofs.MovingLemmas.{Entering}
use Rattle.session.proofs.moving.enter_all.Given as goal

abbrev pub invariant-loop-key : goal.invariant-loop-key
invariant-loop-key l = Entering l.fn.rest l.rest l.keys (drop l.key-index l.keys)
