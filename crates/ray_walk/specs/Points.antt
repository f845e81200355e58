-- The points of the walk of a pixel's ray: how many there are, how deep each is, and the voxel nearest to it. The choice of the points is this project's own.
use Rattle.std.specs.Prelude.{ℕ, ◌+◌, ◌<◌, ℤ, pos, ◌+ℤ◌, ◌-ℤ◌, ◌*ℤ◌, ◌<ℤ◌, unsigned_abs}
use Rattle.fixed_geom.specs.Division.{floor_div}
use Rattle.fixed_geom.specs.declared.vector.Vec3.{Vec3}
use Rattle.fixed_geom.specs.Poses.{Pose, world}
use Rattle.camera.specs.declared.camera.CameraFields.{CameraFields}
use Rattle.camera.specs.Cameras.{ray}
use Rattle.camera.specs.Grid.{nearest_voxel}

-- the number of points of each walk: their depths are those of near + s j that are at most far, where s is the voxel size
abbrev pub point_count : CameraFields → ℕ
point_count k = unsigned_abs (floor_div (k.far -ℤ k.near) k.voxel) + 1

-- the depth of point j
abbrev pub point_depth : CameraFields → (j : ℕ) → ℤ
point_depth k j = k.near +ℤ k.voxel *ℤ pos j

-- the coordinates of the voxel nearest to the point at depth z of a pixel's ray
abbrev pub voxel_at : CameraFields → Pose → (u v : ℕ) → (z : ℤ) → Vec3
voxel_at k p u v z = nearest_voxel k.voxel (world p (ray k (pos u) (pos v) z))

-- the pixel in column u and row v is one of the image's, and its walk has the point j
pub record IsPoint (k : CameraFields) (u v j : ℕ) : Type 0 where
  pub column : pos u <ℤ k.width
  pub row : pos v <ℤ k.height
  pub point : j < point_count k
