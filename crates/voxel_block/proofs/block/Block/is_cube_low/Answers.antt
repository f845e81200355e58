use Rattle.voxel_block.specs.Parts.{IsLayerLow}
use Rattle.voxel_block.proofs.PartLemmas.{any_of_four}
use Rattle.voxel_block.proofs.block.Block.is_cube_low.Goals as goal

pub returns-clause-low : goal.returns-clause-low
returns-clause-low c = any_of_four (IsLayerLow c.args.self.now) 64 c.args.i c.is_layer_low.result c.is_layer_low-2.result c.is_layer_low-3.result c.is_layer_low-4.result c.any.result c.is_layer_low.ensures.low c.is_layer_low-2.ensures.low c.is_layer_low-3.ensures.low c.is_layer_low-4.ensures.low c.any.ensures
