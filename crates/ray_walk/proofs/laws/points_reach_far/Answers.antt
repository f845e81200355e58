use Rattle.ray_walk.proofs.PointLemmas.{depth_far, far_point}
use Rattle.ray_walk.proofs.laws.points_reach_far.Goals as goal

pub returns : goal.returns
returns c = λ k j r. (depth_far k j r, far_point k j r)
