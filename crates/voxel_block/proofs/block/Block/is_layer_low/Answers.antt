use Rattle.voxel_block.specs.Parts.{IsRowLow}
use Rattle.voxel_block.proofs.PartLemmas.{any_of_four}
use Rattle.voxel_block.proofs.block.Block.is_layer_low.Goals as goal

pub returns-clause-low : goal.returns-clause-low
returns-clause-low c = any_of_four (IsRowLow c.args.self.now) 8 c.args.i c.is_row_low.result c.is_row_low-2.result c.is_row_low-3.result c.is_row_low-4.result c.any.result c.is_row_low.ensures.low c.is_row_low-2.ensures.low c.is_row_low-3.ensures.low c.is_row_low-4.ensures.low c.any.ensures
