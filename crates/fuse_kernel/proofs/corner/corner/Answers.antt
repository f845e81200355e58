use Rattle.std.proofs.Common.{◌∙◌}
use Rattle.fuse_kernel.specs.VoxelSteps.{near_of}
use Rattle.fuse_kernel.proofs.CornerLemmas.{coordinates_are, corner_near}
use Rattle.fuse_kernel.proofs.corner.corner.Goals as goal

pub narrow-requires : goal.narrow-requires
narrow-requires c =
    let e = c.cam_q30.ensures in
    corner_near c.args.camera.now c.args.pose.now c.args.key (near_of c.cam_q30.result) c.fields-camera.ensures.camera e.pose c.requires (coordinates_are c.args.pose.now c.cam_q30.result _ c.voxel_point.result e.x e.y e.z c.voxel_point.ensures.value)

pub returns-clause-value : goal.returns-clause-value
returns-clause-value c =
    let e = c.cam_q30.ensures in
    c.narrow.ensures.value ∙ coordinates_are c.args.pose.now c.cam_q30.result _ c.voxel_point.result e.x e.y e.z c.voxel_point.ensures.value
