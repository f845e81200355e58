-- A frame: a depth map, the pose and the camera that it was taken by, and what it is fused by.
use Rattle.std.specs.Prelude.{◌≡◌, ℕ, ◌≤◌, Bool}
use Rattle.fixed_geom.specs.Poses.{Pose}
use Rattle.voxel_block.specs.declared.key.BlockKey.{BlockKey}
use Rattle.depth_frame.specs.DepthMaps.{DepthMap}
use Rattle.camera.specs.declared.camera.CameraFields.{CameraFields}
use Rattle.camera.specs.Cameras.{is_active as is_active_at}
use Rattle.depth_view.specs.Views.{View, IsView, depth_list, view_of}
use Rattle.fuse_kernel.specs.declared.kernel.Kernel.{Kernel}

-- a frame as contracts see it
pub record Frame : Type 0 where
  pub version : ℕ
  pub camera : CameraFields
  pub max_weight : ℕ
  pub pose : Pose
  pub depths : DepthMap

-- what a frame shows: its depth map, the camera that took it, and the pose that it was taken from
abbrev pub view : Frame → View
view f = view_of f.camera f.pose f.depths

-- what is known of each frame
pub record IsFrame (f : Frame) : Type 0 where
  pub shown : IsView (view f)
  pub max_weight : 1 ≤ f.max_weight

-- whether a block is active for a frame: its centre lies in the sphere before the camera
abbrev pub is_active : Frame → BlockKey → Bool
is_active f b = is_active_at f.camera f.pose b

-- a kernel is a frame's: it has the frame's camera, its pose, its greatest weight and the depths of its pixels
pub record IsKernelOf (f : Frame) (k : Kernel) : Type 0 where
  pub camera : k.camera.now ≡ f.camera
  pub pose : k.pose.now ≡ f.pose
  pub depths : k.depths.now ≡ depth_list f.camera f.depths
  pub max_weight : k.max_weight ≡ f.max_weight
