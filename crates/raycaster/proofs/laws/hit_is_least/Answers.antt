use Rattle.raycaster.proofs.HitLemmas.{is_least, least_is}
use Rattle.raycaster.proofs.laws.hit_is_least.Goals as goal

pub returns : goal.returns
returns c = λ w j. (is_least w j, λ h. least_is w j h.0 h.1)
