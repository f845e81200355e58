-- The scaled camera coordinates of a block's voxels, by those of its corner and what a step along each axis adds.
use Rattle.std.specs.Prelude.{ℕ, ℤ, pos, ◌+ℤ◌, ◌*ℤ◌, List, ◌++◌, take, drop}
use Rattle.fixed_geom.specs.declared.cam_q30.CamQ30.{CamQ30}
use Rattle.fixed_geom.specs.declared.vector.Vec3.{Vec3}
use Rattle.fixed_geom.specs.Division.{floor_div}
use Rattle.fixed_geom.specs.Vectors.{vec, IsWithin}
use Rattle.fixed_geom.specs.Poses.{Pose, cam_q30_axis, unit, column_x, column_y, column_z, row_x, row_y, row_z}
use Rattle.voxel_block.specs.declared.key.BlockKey.{BlockKey}
use Rattle.voxel_block.specs.declared.voxel.Voxel.{Voxel}
use Rattle.depth_view.specs.Views.{View}
use Rattle.fuse_kernel.specs.declared.near_cam_q30.NearCamQ30.{NearCamQ30}
use Rattle.fuse_kernel.specs.declared.voxel_steps.VoxelSteps.{VoxelSteps}
use Rattle.fuse_kernel.specs.Updates.{updated}

-- the scaled camera coordinates of a world point
abbrev pub cam_q30_of : Pose → Vec3 → NearCamQ30
cam_q30_of m p = record { x = cam_q30_axis (column_x m) m.t p; y = cam_q30_axis (column_y m) m.t p; z = cam_q30_axis (column_z m) m.t p }

-- those that the machine has in 128 bits
abbrev pub near_of : CamQ30 → NearCamQ30
near_of f = record { x = f.x; y = f.y; z = f.z }

-- the camera point of scaled camera coordinates
abbrev pub point_by : NearCamQ30 → Vec3
point_by a = vec (floor_div a.x unit) (floor_div a.y unit) (floor_div a.z unit)

-- the voxel point at the offset (x, y, z) from the corner of block b, in voxels
abbrev pub voxel_point_by : (s : ℤ) → BlockKey → (x y z : ℤ) → Vec3
voxel_point_by s b x y z = vec ((pos 8 *ℤ b.x +ℤ x) *ℤ s) ((pos 8 *ℤ b.y +ℤ y) *ℤ s) ((pos 8 *ℤ b.z +ℤ z) *ℤ s)

-- what a step of s along an axis of the world adds to them: s times a row of the rotation
abbrev pub step_by : (s : ℤ) → (row : Vec3) → NearCamQ30
step_by s r = record { x = s *ℤ r.x; y = s *ℤ r.y; z = s *ℤ r.z }

-- scaled camera coordinates after a step
abbrev pub stepped : NearCamQ30 → (step : NearCamQ30) → NearCamQ30
stepped a b = record { x = a.x +ℤ b.x; y = a.y +ℤ b.y; z = a.z +ℤ b.z }

-- the steps over block b: its corner's scaled camera coordinates, and what a step along each axis adds
abbrev pub voxel_steps_of : (s : ℤ) → Pose → BlockKey → VoxelSteps
voxel_steps_of s m b = record {
  corner = cam_q30_of m (voxel_point_by s b (pos 0) (pos 0) (pos 0));
  x = step_by s (row_x m);
  y = step_by s (row_y m);
  z = step_by s (row_z m);
}

-- on one axis of the camera, the coordinate at the offset (x, y, z), where a step along x adds a, along y b and along z c
abbrev pub cam_q30_at_axis : (corner a b c x y z : ℤ) → ℤ
cam_q30_at_axis k a b c x y z = k +ℤ x *ℤ a +ℤ y *ℤ b +ℤ z *ℤ c

-- the scaled camera coordinates of the voxel at an offset
abbrev pub cam_q30_at : VoxelSteps → (x y z : ℤ) → NearCamQ30
cam_q30_at a x y z = record {
  x = cam_q30_at_axis a.corner.x a.x.x a.y.x a.z.x x y z;
  y = cam_q30_at_axis a.corner.y a.x.y a.y.y a.z.y x y z;
  z = cam_q30_at_axis a.corner.z a.x.z a.y.z a.z.z x y z;
}

-- each coordinate is within n
pub record NearCamQ30Within (n : ℤ) (a : NearCamQ30) : Type 0 where
  pub x : IsWithin n a.x
  pub y : IsWithin n a.y
  pub z : IsWithin n a.z

-- the corner's coordinates are within 2^55, and the steps within 2^47
pub record HasStepBounds (a : VoxelSteps) : Type 0 where
  pub corner : NearCamQ30Within (pos 36028797018963968) a.corner
  pub x : NearCamQ30Within (pos 140737488355328) a.x
  pub y : NearCamQ30Within (pos 140737488355328) a.y
  pub z : NearCamQ30Within (pos 140737488355328) a.z

-- a block whose first i voxels are updated
abbrev pub updated_to : View → (max_weight : ℕ) → BlockKey → (i : ℕ) → List Voxel → List Voxel
updated_to w n b i voxels = updated w n b (take i voxels) ++ drop i voxels
