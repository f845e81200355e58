use Rattle.std.proofs.Common.{arith}
use Rattle.voxel_block.specs.Packing.{IsAllowed, voxels_in}
use Rattle.voxel_block.proofs.Packing.{holds_more, holds_all, length-voxels_in}
use Rattle.voxel_block.proofs.unpack.first_bad.Goals as goal

pub loop-i-preserved : goal.loop-i-preserved
loop-i-preserved c =
    let long = length-voxels_in c.args.bytes.now c.requires in
    let allowed : IsAllowed c.args.max_weight c.voxel_at.result = c.is_allowed.ensures.0 c.if-not-is_allowed.false in
    holds_more (IsAllowed c.args.max_weight) (voxels_in c.args.bytes.now) c.loop-i.i c.voxel_at.result (omega arith) c.voxel_at.ensures allowed c.loop-i.invariant

pub returns : goal.returns
returns c =
    let long = length-voxels_in c.args.bytes.now c.requires in
    holds_all (IsAllowed c.args.max_weight) (voxels_in c.args.bytes.now) c.loop-i.i (omega arith) c.loop-i.invariant
