use Rattle.raycaster.proofs.HitLemmas.{is_none, none_is}
use Rattle.raycaster.proofs.laws.no_hit_is_none.Goals as goal

pub returns : goal.returns
returns c = λ w. (none_is w, is_none w)
