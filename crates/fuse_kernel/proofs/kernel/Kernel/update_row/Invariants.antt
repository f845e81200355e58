use Rattle.std.proofs.Common.{◌≡◌, ◌+◌, ◌*◌, ◌/◌, ◌%◌, List}
use Rattle.std.specs.Prelude.{pos}
use Rattle.fixed_geom.specs.Poses.{Pose}
use Rattle.voxel_block.specs.declared.key.BlockKey.{BlockKey}
use Rattle.voxel_block.specs.declared.voxel.Voxel.{Voxel}
use Rattle.depth_frame.specs.DepthMaps.{DepthMap}
use Rattle.depth_view.specs.Views.{FitsImage, depth_list, view_of}
use Rattle.fuse_kernel.specs.VoxelSteps.{cam_q30_at, updated_to, voxel_steps_of}
use Rattle.fuse_kernel.proofs.kernel.Kernel.update_row.Given as goal

abbrev pub invariant-loop-x : goal.invariant-loop-x
invariant-loop-x l =
    (l.near_cam_q30 ≡ cam_q30_at l.fn.steps (pos l.x) (pos (l.fn.row % 8)) (pos (l.fn.row / 8)))
    × ((p : DepthMap) (m : Pose) (b : BlockKey) (voxels : List Voxel) → FitsImage l.fn.self.camera.now p → l.fn.self.depths.now ≡ depth_list l.fn.self.camera.now p
    → l.fn.steps ≡ voxel_steps_of l.fn.self.camera.now.voxel m b → l.initial.block ≡ updated_to (view_of l.fn.self.camera.now m p) l.fn.self.max_weight b (8 * l.fn.row) voxels
    → l.block ≡ updated_to (view_of l.fn.self.camera.now m p) l.fn.self.max_weight b (8 * l.fn.row + l.x) voxels)
