use Rattle.std.proofs.Common.{arith}
use Rattle.voxel_block.specs.Packing.{voxels_in}
use Rattle.voxel_block.proofs.Packing.{filled_more, filled_all, length-voxels_in}
use Rattle.voxel_block.proofs.unpack.fill.Goals as goal

pub loop-i-preserved : goal.loop-i-preserved
loop-i-preserved c = filled_more (voxels_in c.args.bytes.now) c.loop-i.out c.set.new.self c.loop-i.i c.voxel_at.result (length-voxels_in c.args.bytes.now c.requires.len) (omega arith) c.loop-i.invariant c.voxel_at.ensures c.set.ensures

pub returns : goal.returns
returns c = filled_all (voxels_in c.args.bytes.now) c.loop-i.out c.loop-i.i (length-voxels_in c.args.bytes.now c.requires.len) (omega arith) c.loop-i.invariant
