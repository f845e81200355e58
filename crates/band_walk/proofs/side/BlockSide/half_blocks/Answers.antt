use Rattle.std.proofs.Common.{◌*◌, refl}
use Rattle.band_walk.proofs.SideLemmas.{halves_read}
use Rattle.band_walk.proofs.side.BlockSide.half_blocks.Goals as goal

pub returns-clause-value : goal.returns-clause-value
returns-clause-value c = halves_read c.args.self.voxel c.args.offset (2 * c.args.offset) c.few_blocks.result c.args.self.least c.args.self.most refl c.few_blocks.ensures.value
