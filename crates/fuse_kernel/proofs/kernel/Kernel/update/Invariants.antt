use Rattle.std.proofs.Common.{◌≡◌, ◌*◌}
use Rattle.depth_frame.specs.DepthMaps.{DepthMap}
use Rattle.depth_view.specs.Views.{FitsImage, depth_list, view_of}
use Rattle.fuse_kernel.specs.VoxelSteps.{updated_to}
use Rattle.fuse_kernel.proofs.kernel.Kernel.update.Given as goal

abbrev pub invariant-loop-row : goal.invariant-loop-row
invariant-loop-row l = (p : DepthMap) → FitsImage l.fn.self.camera.now p → l.fn.self.depths.now ≡ depth_list l.fn.self.camera.now p
    → l.block ≡ updated_to (view_of l.fn.self.camera.now l.fn.self.pose.now p) l.fn.self.max_weight l.fn.key (8 * l.row) l.initial.block
