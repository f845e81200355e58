use Rattle.camera.proofs.ProjectionLemmas.{depth_read}
use Rattle.camera.proofs.projection.depth.Goals as goal

pub returns : goal.returns
returns c = depth_read c.args.camera.now c.args.raw c.from.result c.is_between.result c.then_some.result c.requires c.ranges.raw.fits c.if-raw-eq0.false c.from.ensures c.is_between.ensures c.then_some.ensures
