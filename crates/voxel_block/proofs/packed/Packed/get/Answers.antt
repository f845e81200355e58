use Rattle.voxel_block.proofs.Packing.{length-voxels_in}
use Rattle.voxel_block.proofs.packed.Packed.get.Goals as goal

pub returns-clause-count : goal.returns-clause-count
returns-clause-count c = length-voxels_in c.args.self.now c.bytes.ensures.len
