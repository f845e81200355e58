-- The box of a cube: the pixels and the points that may have their nearest voxel in it.
use Rattle.std.specs.Prelude.{ℕ, ℤ, pos, ◌+ℤ◌, ◌-ℤ◌, ◌*ℤ◌, ◌≤ℤ◌, ◌<ℤ◌, int_lt, unsigned_abs, Bool, ◌||◌, Option, Some, None, if◌then◌else◌}
use Rattle.std.specs.Int.{int_max, int_min}
use Rattle.fixed_geom.specs.Division.{floor_div}
use Rattle.fixed_geom.specs.declared.vector.Vec3.{Vec3}
use Rattle.fixed_geom.specs.Vectors.{IsWithin, AreWithin, vec, dot}
use Rattle.fixed_geom.specs.Poses.{Pose, column_x, column_y, column_z}
use Rattle.camera.specs.declared.camera.CameraFields.{CameraFields}
use Rattle.ray_walk.specs.Points.{point_count}
use Rattle.ray_ranges.specs.Cubes.{IsEnd, IsFrom, IsNearCube}
use Rattle.ray_ranges.specs.declared.span.Span.{Span}
use Rattle.ray_ranges.specs.declared.boxes.PixelBox.{PixelBox}

-- the numbers from a to b
abbrev pub span : (a b : ℤ) → Span
span a b = record { low = a; high = b }

-- z is one of them
abbrev pub IsIn : Span → (z : ℤ) → Type 0
IsIn a z = IsFrom a.low a.high z

-- point j of the walk of pixel (u, v) is in the box
pub record IsInBox (b : PixelBox) (u v j : ℤ) : Type 0 where
  pub column : IsIn b.columns u
  pub row : IsIn b.rows v
  pub point : IsIn b.points j

-- each point whose nearest voxel is in the cube is in the box
abbrev pub Covers : CameraFields → Pose → (l : Vec3) (e : ℤ) → PixelBox → Type 0
Covers k m l e b = (u v j : ℕ) → IsEnd k u v j → IsNearCube k m l e u v j → IsInBox b (pos u) (pos v) (pos j)

-- there is no such point
abbrev pub HasNoPoint : CameraFields → Pose → (l : Vec3) (e : ℤ) → Type 0
HasNoPoint k m l e = (u v j : ℕ) → IsEnd k u v j → IsNearCube k m l e u v j → ⊥

-- the pixels of a box are the image's, and its points are those of a walk
pub record IsInside (k : CameraFields) (b : PixelBox) : Type 0 where
  pub left : pos 0 ≤ℤ b.columns.low
  pub right : b.columns.high <ℤ k.width
  pub top : pos 0 ≤ℤ b.rows.low
  pub bottom : b.rows.high <ℤ k.height
  pub columns : b.columns.low ≤ℤ b.columns.high
  pub rows : b.rows.low ≤ℤ b.rows.high
  pub first : pos 1 ≤ℤ b.points.low
  pub last : b.points.high <ℤ pos (point_count k)
  pub points : b.points.low ≤ℤ b.points.high

-- ---- the camera coordinates of a cube's points

-- twice the middle of the cube, from the translation t, on one axis
abbrev pub middle_axis : (s l e t : ℤ) → ℤ
middle_axis s l e t = s *ℤ (pos 2 *ℤ l +ℤ e -ℤ pos 1) -ℤ pos 2 *ℤ t

abbrev pub middle_of : (s : ℤ) (l : Vec3) (e : ℤ) (t : Vec3) → Vec3
middle_of s l e t = vec (middle_axis s l.x e t.x) (middle_axis s l.y e t.y) (middle_axis s l.z e t.z)

-- the sum of the sizes of a column's entries
abbrev pub size_of : Vec3 → ℤ
size_of c = pos (unsigned_abs c.x) +ℤ pos (unsigned_abs c.y) +ℤ pos (unsigned_abs c.z)

-- 2^31
abbrev pub two_units : ℤ
two_units = pos 2147483648

-- the camera coordinates along column c of the ray points whose nearest voxels are in a cube with the doubled middle m and a side of n micrometres, where they drift by d
abbrev pub reach_of : (c m : Vec3) (n d : ℤ) → Span
reach_of c m n d = span (floor_div (dot c m -ℤ size_of c *ℤ n) two_units -ℤ d) (floor_div (dot c m +ℤ size_of c *ℤ n) two_units +ℤ d)

-- ---- depths, points and pixels

-- the depths of a span that a walk takes
abbrev pub depths_of : CameraFields → Span → Span
depths_of k z = span (int_max z.low k.near) (int_min z.high k.far)

-- the points at these depths, without the first one
abbrev pub points_of : (near s : ℤ) → Span → Span
points_of near s z = span (int_max (pos 1) (floor_div (z.low -ℤ near +ℤ s -ℤ pos 1) s)) (floor_div (z.high -ℤ near) s)

-- the pixel whose ray has a / z at depth z, where the axis is at c
abbrev pub pixel_by : (c a z : ℤ) → ℤ
pixel_by c a z = floor_div (floor_div a z +ℤ c) (pos 65536)

-- the depth a for a coordinate below 0, and b for another one
abbrev pub depth_by_sign : (x a b : ℤ) → ℤ
depth_by_sign x a b = if int_lt x (pos 0) then a else b

-- the first pixel whose ray may have a point of the coordinates x at the depths z
abbrev pub first_pixel : (f c x : ℤ) → Span → ℤ
first_pixel f c x z = pixel_by c (f *ℤ x) (depth_by_sign x z.low z.high)

-- and the last one
abbrev pub last_pixel : (f c x : ℤ) → Span → ℤ
last_pixel f c x z = pixel_by c (f *ℤ (x +ℤ pos 1) -ℤ pos 1) (depth_by_sign x z.high z.low)

-- the pixels of an image of w pixels whose rays may have points of the coordinates x at the depths z
abbrev pub pixels_of : (f c w : ℤ) (x z : Span) → Span
pixels_of f c w x z = span (int_max (pos 0) (first_pixel f c x.low z)) (int_min (w -ℤ pos 1) (last_pixel f c x.high z))

-- ---- the box

-- the pixels and points whose ray points have the coordinates x and y at the depths z
abbrev pub box_at : CameraFields → (x y z : Span) → PixelBox
box_at k x y z = record { columns = pixels_of k.fx k.cx k.width x z; rows = pixels_of k.fy k.cy k.height y z; points = points_of k.near k.voxel z }

-- a box has no point where one of its three spans has none
abbrev pub is_empty : PixelBox → Bool
is_empty b = int_lt b.columns.high b.columns.low || int_lt b.rows.high b.rows.low || int_lt b.points.high b.points.low

-- the same, nothing where there is no such depth or no such pixel or point
abbrev pub box_by : CameraFields → (x y z : Span) → Option PixelBox
box_by k x y z = if int_lt z.high z.low then None else if is_empty (box_at k x y z) then None else Some (box_at k x y z)

-- the box of a cube
abbrev pub box_of : CameraFields → Pose → (l : Vec3) (e d : ℤ) → Option PixelBox
box_of k m l e d =
    let w = middle_of k.voxel l e m.t in
    let n = k.voxel *ℤ e in
    box_by k (reach_of (column_x m) w n d) (reach_of (column_y m) w n d) (depths_of k (reach_of (column_z m) w n d))

-- a least voxel whose cube walks may come near to: its coordinates fit the keys of blocks, and it stands within 154 metres of the origin on each axis
pub record IsNearby (s : ℤ) (l : Vec3) : Type 0 where
  pub key : AreWithin (pos 262144) l
  pub start : AreWithin (pos 154000000) (vec (s *ℤ l.x) (s *ℤ l.y) (s *ℤ l.z))

-- both ends of a span are at most n either way
pub record IsSpanWithin (n : ℤ) (a : Span) : Type 0 where
  pub low : IsWithin n a.low
  pub high : IsWithin n a.high
