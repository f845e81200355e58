use Rattle.std.proofs.Common.{◌≡◌, ◌∙◌, ap}
use Rattle.fixed_geom.specs.Poses.{Pose, row_x, row_y, row_z}
use Rattle.camera.specs.declared.camera.CameraFields.{CameraFields}
use Rattle.fuse_kernel.specs.VoxelSteps.{step_by}
use Rattle.fuse_kernel.proofs.CornerLemmas.{rows_within, step_read, voxel_within}
use Rattle.fuse_kernel.proofs.voxel_steps.VoxelSteps.make.Goals as goal

pub returns-clause-value : goal.returns-clause-value
returns-clause-value c =
    let k = c.args.camera.now in
    let m = c.args.pose.now in
    let back = c.rows.ensures.back in
    let w = rows_within m c.rows.result back c.rows.ensures.pose in
    let s = voxel_within k c.fields-voxel.ensures.camera.ranges in
    let same : c.fields-voxel.result.voxel ≡ k.voxel = ap (λ (k : CameraFields). k.voxel) c.fields-voxel.ensures.value in
    let x : c.step.result ≡ step_by k.voxel (row_x m) = step_read k.voxel _ _ _ _ c.step.result same s w.x c.step.ensures.value ∙ ap (λ (m : Pose). step_by k.voxel (row_x m)) back in
    let y : c.step-2.result ≡ step_by k.voxel (row_y m) = step_read k.voxel _ _ _ _ c.step-2.result same s w.y c.step-2.ensures.value ∙ ap (λ (m : Pose). step_by k.voxel (row_y m)) back in
    let z : c.step-3.result ≡ step_by k.voxel (row_z m) = step_read k.voxel _ _ _ _ c.step-3.result same s w.z c.step-3.ensures.value ∙ ap (λ (m : Pose). step_by k.voxel (row_z m)) back in
    λ i. record { corner = c.corner.ensures.value i; x = x i; y = y i; z = z i }
