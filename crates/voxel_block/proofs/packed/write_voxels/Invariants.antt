use Rattle.voxel_block.proofs.Packing.{IsWritten}
use Rattle.voxel_block.proofs.packed.write_voxels.Given as goal

abbrev pub invariant-loop-i : goal.invariant-loop-i
invariant-loop-i l = IsWritten l.block l.out l.i
