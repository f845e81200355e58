use Rattle.camera.proofs.ProjectionLemmas.{across_read}
use Rattle.camera.proofs.projection.is_across.Goals as goal

pub returns : goal.returns
returns c = across_read _ c.args.scaled c.args.size c.args.z c.ranges.scaled c.requires.size c.requires.z c.requires.front c.is_between.ensures
