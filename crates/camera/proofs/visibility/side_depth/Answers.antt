use Rattle.camera.proofs.VisibilityLemmas.{side_depth_within}
use Rattle.camera.proofs.visibility.side_depth.Goals as goal

pub returns-clause-bound : goal.returns-clause-bound
returns-clause-bound c = side_depth_within c.args.z c.margin.result c.max_depth.result c.min.result c.requires.z c.margin.ensures.bound c.max_depth.ensures.bound c.min.ensures.value
