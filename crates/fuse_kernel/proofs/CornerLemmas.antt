-- The entries of a pose as the machine reads them, and the corner of a visible block.
use Rattle.std.proofs.Common.{◌≡◌, ◌∙◌, ap, refl, subst, sym, arith}
use Rattle.std.specs.Prelude.{ℤ, pos, IsTrue}
use Rattle.std.proofs.lemmas.Int.{ints}
use Rattle.fixed_geom.specs.declared.vector.Vec3.{Vec3}
use Rattle.fixed_geom.specs.declared.cam_q30.CamQ30.{CamQ30}
use Rattle.fixed_geom.specs.declared.pose.PoseRows.{PoseRows}
use Rattle.fixed_geom.specs.Vectors.{IsWithin, AreWithin, vec}
use Rattle.fixed_geom.specs.PoseTest.{pose_of}
use Rattle.fixed_geom.specs.Poses.{Pose, IsPose, HasPoseRange, entry_bound, cam_q30_axis, column_x, column_y, column_z}
use Rattle.voxel_block.specs.declared.key.BlockKey.{BlockKey}
use Rattle.camera.specs.declared.camera.CameraFields.{CameraFields}
use Rattle.camera.specs.Cameras.{HasRanges, IsCamera}
use Rattle.camera.specs.Grid.{point_of}
use Rattle.camera.specs.Visibility.{is_visible}
use Rattle.camera.proofs.Readings.{read}
use Rattle.fuse_kernel.specs.declared.near_cam_q30.NearCamQ30.{NearCamQ30}
use Rattle.fuse_kernel.specs.VoxelSteps.{NearCamQ30Within, cam_q30_of, near_of, step_by}
use Rattle.fuse_kernel.proofs.Machine.{plain_read}
use Rattle.fuse_kernel.proofs.VoxelStepLemmas.{visible_cam_q30}

-- an entry of a pose, and the size of a voxel
entry_read : (z : ℤ) → IsWithin entry_bound z → read z ≡ z
entry_read z w = plain_read entry_bound z (omega (arith, ints)) w

pub voxel_within : (k : CameraFields) → HasRanges k → IsWithin (pos 100000) k.voxel
voxel_within k r = record { low = omega (arith, ints, r.voxel); high = r.voxel_high }

-- the entries of rows that make a pose
pub rows_within : (m : Pose) (rows : PoseRows) → pose_of rows ≡ m → IsPose m → HasPoseRange (pose_of rows)
rows_within m rows back pose = subst HasPoseRange (sym back) pose.range

-- a step along an axis, as the machine makes it
pub step_read : (s u x y z : ℤ) (r : NearCamQ30) → u ≡ s → IsWithin (pos 100000) s → AreWithin entry_bound (vec x y z) → r ≡ step_by (read u) (vec (read x) (read y) (read z)) → r ≡ step_by s (vec x y z)
step_read s u x y z r same small w is =
    let one : read u ≡ s = ap read same ∙ plain_read (pos 100000) s (omega (arith, ints)) small in
    is ∙ rw (one, entry_read x w.x, entry_read y w.y, entry_read z w.z) refl

-- ---- the corner

pub coordinates_are : (m : Pose) (f : CamQ30) (p q : Vec3) → f.x ≡ cam_q30_axis (column_x m) m.t q → f.y ≡ cam_q30_axis (column_y m) m.t q → f.z ≡ cam_q30_axis (column_z m) m.t q → q ≡ p → near_of f ≡ cam_q30_of m p
coordinates_are m f p q x y z e =
    let at : near_of f ≡ cam_q30_of m q = λ k. record { x = x k; y = y k; z = z k } in
    at ∙ ap (cam_q30_of m) e

-- that of a visible block is near
pub corner_near : (k : CameraFields) (m : Pose) (b : BlockKey) (f : NearCamQ30) → IsCamera k → IsPose m → IsTrue (is_visible k m b) → f ≡ cam_q30_of m (point_of k.voxel b 0) → NearCamQ30Within (pos 36028797018963968) f
corner_near k m b f camera pose visible e = subst (NearCamQ30Within (pos 36028797018963968)) (sym e) (visible_cam_q30 k m b 0 camera pose (omega arith) visible)
