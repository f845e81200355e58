use Rattle.std.proofs.Common.{◌+◌, ◌%◌}
use Rattle.voxel_block.proofs.Blocks.{IsChangedTo}
use Rattle.voxel_block.proofs.tests.weigh.Given as goal

abbrev pub invariant-loop-i : goal.invariant-loop-i
invariant-loop-i l = IsChangedTo (λ i v. record { f = v.f; w = i % 255 + 1 }) 512 l.initial.block l.block l.i
