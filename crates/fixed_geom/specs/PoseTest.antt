-- The pose test as a function: whether nine entries and a translation make a pose, and if not, why.
use Rattle.std.specs.Prelude.{ℕ, ℤ, pos, neg_ℤ, ◌-ℤ◌, Bool, ◌&&◌, int_lt, if◌then◌else◌, Result, Ok, Err, slice_index_or, [], ◌∷◌}
use Rattle.std.specs.Int.Signed.{le_z}
use Rattle.fixed_geom.specs.declared.vector.Vec3.{Vec3}
use Rattle.fixed_geom.specs.declared.pose.PoseRows.{PoseRows}
use Rattle.fixed_geom.specs.declared.pose.BadPose.{BadPose}
use Rattle.fixed_geom.specs.declared.pose.BadPose.TheVariants.{Range, NotRotation}
use Rattle.fixed_geom.specs.Vectors.{dot}
use Rattle.fixed_geom.specs.Poses.{Pose, row_x, row_y, row_z, column_x, column_y, column_z, entry_bound, translation_bound, unit_squared, nearness, determinant}

-- the entry of an index, from 0 to 8
abbrev pub entry : PoseRows → ℕ → ℤ
entry p i = slice_index_or p.r i (pos 0)

-- the nine entries by row and column
abbrev pub pose_of : PoseRows → Pose
pose_of p = record {
  r00 = entry p 0;
  r01 = entry p 1;
  r02 = entry p 2;
  r10 = entry p 3;
  r11 = entry p 4;
  r12 = entry p 5;
  r20 = entry p 6;
  r21 = entry p 7;
  r22 = entry p 8;
  t = p.t;
}

-- the nine entries, row by row
abbrev pub rows_of : Pose → PoseRows
rows_of m = record { r = m.r00 ∷ m.r01 ∷ m.r02 ∷ m.r10 ∷ m.r11 ∷ m.r12 ∷ m.r20 ∷ m.r21 ∷ m.r22 ∷ []; t = m.t }

-- the test of IsWithin
abbrev pub is_within : (n z : ℤ) → Bool
is_within n z = le_z (neg_ℤ n) z && le_z z n

-- the test of AreWithin
abbrev pub are_within : ℤ → Vec3 → Bool
are_within n v = is_within n v.x && is_within n v.y && is_within n v.z

-- the test of IsNear
abbrev pub is_near : (target z : ℤ) → Bool
is_near target z = is_within nearness (z -ℤ target)

-- the test of HasPoseRange
abbrev pub has_pose_range : Pose → Bool
has_pose_range m = are_within entry_bound (row_x m) && are_within entry_bound (row_y m) && are_within entry_bound (row_z m) && are_within translation_bound m.t

-- the test of IsNearRotation
abbrev pub is_near_rotation : Pose → Bool
is_near_rotation m =
    is_near unit_squared (dot (column_x m) (column_x m))
    && is_near (pos 0) (dot (column_x m) (column_y m))
    && is_near (pos 0) (dot (column_x m) (column_z m))
    && is_near unit_squared (dot (column_y m) (column_y m))
    && is_near (pos 0) (dot (column_y m) (column_z m))
    && is_near unit_squared (dot (column_z m) (column_z m))
    && int_lt (pos 0) (determinant m)

-- the pose, or why there is none; the bounds are judged first
abbrev pub accepted : Pose → Result Pose BadPose
accepted m = if has_pose_range m then (if is_near_rotation m then Ok m else Err NotRotation) else Err Range
