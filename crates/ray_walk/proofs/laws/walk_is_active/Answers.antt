use Rattle.ray_walk.proofs.PointLemmas.{point_is_active}
use Rattle.ray_walk.proofs.laws.walk_is_active.Goals as goal

pub returns : goal.returns
returns c = point_is_active
