-- What is proved of every walk.
use Rattle.std.specs.Prelude.{ℕ, ◌↔◌, ◌<◌, IsTrue, pos, ◌≤ℤ◌, ◌<ℤ◌}
use Rattle.fixed_geom.specs.Poses.{Pose, IsPose}
use Rattle.camera.specs.declared.camera.CameraFields.{CameraFields}
use Rattle.camera.specs.Cameras.{HasRanges, IsCamera, is_active}
use Rattle.camera.specs.Grid.{block_of_voxel, is_key}
use Rattle.ray_walk.specs.Points.{point_count, point_depth, voxel_at}

-- a walk has the points from near to far and no other
abbrev pub PointsReachFar : Type 0
PointsReachFar = (k : CameraFields) (j : ℕ) → HasRanges k → (j < point_count k) ↔ (point_depth k j ≤ℤ k.far)

-- each point of a walk reads a voxel of an active block, whose coordinates fit 16 bits
abbrev pub WalkIsActive : Type 0
WalkIsActive = (k : CameraFields) (m : Pose) (u v j : ℕ) → IsCamera k → IsPose m → pos u <ℤ k.width → pos v <ℤ k.height → j < point_count k
    → IsTrue (is_active k m (block_of_voxel (voxel_at k m u v (point_depth k j)))) × IsTrue (is_key (block_of_voxel (voxel_at k m u v (point_depth k j))))
