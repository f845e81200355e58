use Rattle.std.specs.Prelude.{◌++◌}
use Rattle.voxel_block.specs.Packing.{packed}
use Rattle.voxel_block.proofs.packed.pack_into.Goals as goal

pub returns-clause-value : goal.returns-clause-value
unfolding packed
returns-clause-value c = λ k. c.write_key.ensures k ++ c.write_voxels.ensures.value k
