use Rattle.std.proofs.Common.{take}
use Rattle.std.specs.Prelude.{All}
use Rattle.voxel_block.specs.Packing.{IsAllowed, voxels_in}
use Rattle.voxel_block.proofs.unpack.first_bad.Given as goal

abbrev pub invariant-loop-i : goal.invariant-loop-i
invariant-loop-i l = All (IsAllowed l.max_weight) (take l.i (voxels_in l.bytes))
