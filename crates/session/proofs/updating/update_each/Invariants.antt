use Rattle.std.proofs.Common.{drop}
use Rattle.session.proofs.UpdatingLemmas.{Updating}
use Rattle.session.proofs.updating.update_each.Given as goal

abbrev pub invariant-loop-key : goal.invariant-loop-key
invariant-loop-key l = Updating l.frame l.fn.rest l.rest l.keys (drop l.key-index l.keys)
