use Rattle.std.proofs.Common.{◌≡◌, ℕ, ◌+◌, ◌*◌, ◌/◌, ◌%◌, ◌∙◌, ap, arith}
use Rattle.std.specs.Prelude.{pos}
use Rattle.depth_view.specs.Views.{view_of}
use Rattle.fuse_kernel.specs.VoxelSteps.{updated_to}
use Rattle.fuse_kernel.proofs.VoxelStepLemmas.{cam_q30_more, cam_q30_within, point_at_is}
use Rattle.fuse_kernel.proofs.kernel.Kernel.update_row.Goals as goal

pub point-requires : goal.point-requires
point-requires c = cam_q30_within c.args.steps.now c.args.row c.loop-x.x c.loop-x.near_cam_q30 c.requires.steps c.requires.row (omega (arith, c.loop-x-test.true)) c.loop-x.invariant.0

pub plus-near_cam_q30-requires-clause-near_cam_q30 : goal.plus-near_cam_q30-requires-clause-near_cam_q30
plus-near_cam_q30-requires-clause-near_cam_q30 c = cam_q30_within c.args.steps.now c.args.row c.loop-x.x c.loop-x.near_cam_q30 c.requires.steps c.requires.row (omega (arith, c.loop-x-test.true)) c.loop-x.invariant.0

pub loop-x-preserved : goal.loop-x-preserved
loop-x-preserved c = (
  cam_q30_more c.args.steps.now c.loop-x.near_cam_q30 c.plus-near_cam_q30.result c.loop-x.x (pos (c.args.row % 8)) (pos (c.args.row / 8)) c.loop-x.invariant.0 c.plus-near_cam_q30.ensures,
  λ p m b voxels fits is steps was.
      let w = view_of c.args.self.now.camera.now m p in
      let next : 8 * c.args.row + c.loop-x.x + 1 ≡ 8 * c.args.row + (c.loop-x.x + 1) = omega arith in
      c.update_voxel.ensures p m b voxels fits is
      (point_at_is w.camera.voxel m b c.args.row c.loop-x.x c.args.steps.now c.loop-x.near_cam_q30 c.point.result c.loop-x-test.true steps c.loop-x.invariant.0 c.point.ensures.value)
      (c.loop-x.invariant.1 p m b voxels fits is steps was)
      ∙ ap (λ (i : ℕ). updated_to w c.args.self.now.max_weight b i voxels) next,
)
