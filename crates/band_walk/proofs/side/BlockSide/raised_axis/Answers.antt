use Rattle.band_walk.proofs.SideLemmas.{axis_read}
use Rattle.band_walk.proofs.side.BlockSide.raised_axis.Goals as goal

pub returns-clause-value : goal.returns-clause-value
returns-clause-value c = axis_read c.args.self.voxel c.args.x c.raised.result c.whole_blocks.result c.args.self.least c.args.self.most c.ranges.x c.raised.ensures.value c.whole_blocks.ensures.value
