use Rattle.raycaster.proofs.SurfaceLemmas.{hit_between}
use Rattle.raycaster.proofs.laws.hit_is_between.Goals as goal

pub returns : goal.returns
returns c = hit_between
