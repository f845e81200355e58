-- A view: a depth map, the camera that took it, and the pose that it was taken from.
use Rattle.std.specs.Prelude.{◌≡◌, ℕ, ℤ, pos, neg_ℤ, ◌*ℤ◌, ◌≤ℤ◌, List, map, Option}
use Rattle.std.specs.Option.{unwrap_or}
use Rattle.fixed_geom.specs.Poses.{Pose, IsPose}
use Rattle.depth_frame.specs.DepthMaps.{DepthMap, sample_at}
use Rattle.camera.specs.declared.camera.CameraFields.{CameraFields}
use Rattle.camera.specs.Cameras.{IsCamera, depth_of}

pub record View : Type 0 where
  pub camera : CameraFields
  pub pose : Pose
  pub depths : DepthMap

abbrev pub view_of : CameraFields → Pose → DepthMap → View
view_of k m p = record { camera = k; pose = m; depths = p }

-- a depth map has the sides of a camera's image
pub record FitsImage (k : CameraFields) (p : DepthMap) : Type 0 where
  pub width : pos p.width ≡ k.width
  pub height : pos p.height ≡ k.height

-- the camera has passed its tests, the pose too, and the depth map has the image's sides
pub record IsView (w : View) : Type 0 where
  pub camera : IsCamera w.camera
  pub pose : IsPose w.pose
  pub fits : FitsImage w.camera w.depths

-- the depth that a pixel shows, nothing where its sample is not valid
abbrev pub depth_at : View → (u v : ℕ) → Option ℤ
depth_at w u v = depth_of w.camera (sample_at w.depths u v)

-- ---- the depths of a frame

-- the depth that stands for none: it lies so far behind the camera that each point is more than mu behind it
abbrev pub no_depth : ℤ
no_depth = neg_ℤ (pos 1073741824)

-- the depth of a raw sample, or the one that stands for none
abbrev pub listed_depth : CameraFields → (raw : ℕ) → ℤ
listed_depth k raw = unwrap_or (depth_of k raw) no_depth

-- the depths of a depth map's pixels, row by row
abbrev pub depth_list : CameraFields → DepthMap → List ℤ
depth_list k p = map (listed_depth k) p.raw
