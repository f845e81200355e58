-- A pose takes camera points to world points. It is three rows of a rotation, in units of 2^-30, and a translation in micrometres.
use Rattle.std.specs.Prelude.{ℤ, pos, ◌+ℤ◌, ◌-ℤ◌, ◌<ℤ◌}
use Rattle.fixed_geom.specs.declared.vector.Vec3.{Vec3}
use Rattle.fixed_geom.specs.Division.{floor_div}
use Rattle.fixed_geom.specs.Vectors.{vec, IsWithin, AreWithin, minus, dot, cross}

-- the entries of a rotation by row and column, and a translation
pub record Pose : Type 0 where
  pub r00 : ℤ
  pub r01 : ℤ
  pub r02 : ℤ
  pub r10 : ℤ
  pub r11 : ℤ
  pub r12 : ℤ
  pub r20 : ℤ
  pub r21 : ℤ
  pub r22 : ℤ
  pub t : Vec3

-- the columns: the camera's axes in the world
abbrev pub column_x : Pose → Vec3
column_x m = vec m.r00 m.r10 m.r20

abbrev pub column_y : Pose → Vec3
column_y m = vec m.r01 m.r11 m.r21

abbrev pub column_z : Pose → Vec3
column_z m = vec m.r02 m.r12 m.r22

-- the rows
abbrev pub row_x : Pose → Vec3
row_x m = vec m.r00 m.r01 m.r02

abbrev pub row_y : Pose → Vec3
row_y m = vec m.r10 m.r11 m.r12

abbrev pub row_z : Pose → Vec3
row_z m = vec m.r20 m.r21 m.r22

-- the pose of three rows and a translation
abbrev pub of_rows : (x y z t : Vec3) → Pose
of_rows x y z t = record { r00 = x.x; r01 = x.y; r02 = x.z; r10 = y.x; r11 = y.y; r12 = y.z; r20 = z.x; r21 = z.y; r22 = z.z; t = t }

-- one: 2^30
abbrev pub unit : ℤ
unit = pos 1073741824

-- a scaled camera coordinate of a world point, in units of 2^-30 micrometres, before the floor: a column times the offset from the translation
abbrev pub cam_q30_axis : (column t p : Vec3) → ℤ
cam_q30_axis c t p = dot c (minus p t)

-- a camera coordinate of a world point. The suffix `_axis` is for one coordinate of three
abbrev pub cam_axis : (column t p : Vec3) → ℤ
cam_axis c t p = floor_div (cam_q30_axis c t p) unit

-- the camera point of a world point
abbrev pub cam : Pose → Vec3 → Vec3
cam m p = vec (cam_axis (column_x m) m.t p) (cam_axis (column_y m) m.t p) (cam_axis (column_z m) m.t p)

-- the world point of a camera point
abbrev pub world : Pose → Vec3 → Vec3
world m c = vec (m.t.x +ℤ floor_div (dot (row_x m) c) unit) (m.t.y +ℤ floor_div (dot (row_y m) c) unit) (m.t.z +ℤ floor_div (dot (row_z m) c) unit)

-- the bound on an entry: 2^30 + 2^17
abbrev pub entry_bound : ℤ
entry_bound = pos 1073872896

-- the bound on a coordinate of the translation: 100 metres
abbrev pub translation_bound : ℤ
translation_bound = pos 100000000

-- the entries and the translation are within their bounds
pub record HasPoseRange (m : Pose) : Type 0 where
  pub x : AreWithin entry_bound (row_x m)
  pub y : AreWithin entry_bound (row_y m)
  pub z : AreWithin entry_bound (row_z m)
  pub t : AreWithin translation_bound m.t

-- the square of one: 2^60
abbrev pub unit_squared : ℤ
unit_squared = pos 1152921504606846976

-- by how much a sum of products may differ from its target: 2^48
abbrev pub nearness : ℤ
nearness = pos 281474976710656

-- z differs from the target by at most that
abbrev pub IsNear : (target z : ℤ) → Type 0
IsNear target z = IsWithin nearness (z -ℤ target)

-- the determinant of the rows, in units of 2^-90
abbrev pub determinant : Pose → ℤ
determinant m = dot (row_x m) (cross (row_y m) (row_z m))

-- the transposed matrix times the matrix is nearly 2^60 times the identity, and the determinant is positive
pub record IsNearRotation (m : Pose) : Type 0 where
  pub xx : IsNear unit_squared (dot (column_x m) (column_x m))
  pub xy : IsNear (pos 0) (dot (column_x m) (column_y m))
  pub xz : IsNear (pos 0) (dot (column_x m) (column_z m))
  pub yy : IsNear unit_squared (dot (column_y m) (column_y m))
  pub yz : IsNear (pos 0) (dot (column_y m) (column_z m))
  pub zz : IsNear unit_squared (dot (column_z m) (column_z m))
  pub positive : pos 0 <ℤ determinant m

-- the pose test: the bounds hold, and it is nearly a rotation
pub record IsPose (m : Pose) : Type 0 where
  pub range : HasPoseRange m
  pub rotation : IsNearRotation m
