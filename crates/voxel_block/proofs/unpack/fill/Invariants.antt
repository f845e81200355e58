use Rattle.voxel_block.specs.Packing.{voxels_in}
use Rattle.voxel_block.proofs.Packing.{IsFilled}
use Rattle.voxel_block.proofs.unpack.fill.Given as goal

abbrev pub invariant-loop-i : goal.invariant-loop-i
invariant-loop-i l = IsFilled (voxels_in l.bytes) l.out l.i
