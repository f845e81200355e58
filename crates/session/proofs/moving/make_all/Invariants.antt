use Rattle.std.proofs.Common.{drop}
use Rattle.session.proofs.MovingLemmas.{Making}
use Rattle.session.proofs.moving.make_all.Given as goal

abbrev pub invariant-loop-key : goal.invariant-loop-key
invariant-loop-key l = Making l.fn.rest l.rest l.keys (drop l.key-index l.keys)
