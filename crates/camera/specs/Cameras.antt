-- A camera: its rays and its projection, the depths that it takes, the opening test and the active sphere.
use Rattle.std.specs.Prelude.{ℕ, ◌==◌, ◌&&◌, Bool, List, [], ◌∷◌, ◌-◌, slice_index_or, ℤ, pos, ◌+ℤ◌, ◌-ℤ◌, ◌*ℤ◌, ◌≤ℤ◌, ◌<ℤ◌, int_le, unsigned_abs, Option, None, Some, if◌then◌else◌}
use Rattle.std.specs.Int.{int_max}
use Rattle.fixed_geom.specs.Division.{floor_div}
use Rattle.fixed_geom.specs.declared.vector.Vec3.{Vec3}
use Rattle.fixed_geom.specs.Vectors.{AreWithin, minus, vec}
use Rattle.fixed_geom.specs.Poses.{IsPose, Pose, cam, world}
use Rattle.voxel_block.specs.declared.key.BlockKey.{BlockKey}
use Rattle.voxel_block.specs.declared.chunk.ChunkKey.{ChunkKey}
use Rattle.camera.specs.Grid.{centre_of, chunk_centre}
use Rattle.camera.specs.declared.camera.CameraFields.{CameraFields}

-- z is in the range from low to high
abbrev pub within : (low high z : ℤ) → Bool
within low high z = int_le low z && int_le z high

-- ---- the ranges of the fields

-- the least value of each field, the field and its greatest value, in the order of their numbers 2 to 14. A range that names another field is taken by its value
abbrev pub ranges_of : CameraFields → List (ℤ × ℤ × ℤ)
ranges_of k =
    (pos 1, k.width, pos 2048)
    ∷ (pos 1, k.height, pos 2048)
    ∷ (pos 1, k.fx, pos 1073741824)
    ∷ (pos 1, k.fy, pos 1073741824)
    ∷ (pos 0, k.cx, pos 65536 *ℤ k.width)
    ∷ (pos 0, k.cy, pos 65536 *ℤ k.height)
    ∷ (pos 1, k.unit, pos 100000)
    ∷ (pos 1, k.near, pos 16000000)
    ∷ (k.near, k.far, pos 16000000)
    ∷ (pos 1000, k.voxel, pos 100000)
    ∷ (k.voxel, k.mu, pos 1000000)
    ∷ (pos 1, k.radius, pos 100000000)
    ∷ (pos 0, k.centre, pos 17000000)
    ∷ []

-- the range of the field with number n
abbrev pub range_at : ℕ → CameraFields → ℤ × ℤ × ℤ
range_at n k = slice_index_or (ranges_of k) (n - 2) (pos 0, pos 0, pos 0)

abbrev pub least : ℕ → CameraFields → ℤ
least n k = (range_at n k).0

abbrev pub greatest : ℕ → CameraFields → ℤ
greatest n k = (range_at n k).2

-- each field is in its range
pub record HasRanges (k : CameraFields) : Type 0 where
  pub width : least 2 k ≤ℤ k.width
  pub width_high : k.width ≤ℤ greatest 2 k
  pub height : least 3 k ≤ℤ k.height
  pub height_high : k.height ≤ℤ greatest 3 k
  pub fx : least 4 k ≤ℤ k.fx
  pub fx_high : k.fx ≤ℤ greatest 4 k
  pub fy : least 5 k ≤ℤ k.fy
  pub fy_high : k.fy ≤ℤ greatest 5 k
  pub cx : least 6 k ≤ℤ k.cx
  pub cx_high : k.cx ≤ℤ greatest 6 k
  pub cy : least 7 k ≤ℤ k.cy
  pub cy_high : k.cy ≤ℤ greatest 7 k
  pub unit : least 8 k ≤ℤ k.unit
  pub unit_high : k.unit ≤ℤ greatest 8 k
  pub near : least 9 k ≤ℤ k.near
  pub near_high : k.near ≤ℤ greatest 9 k
  pub far : least 10 k ≤ℤ k.far
  pub far_high : k.far ≤ℤ greatest 10 k
  pub voxel : least 11 k ≤ℤ k.voxel
  pub voxel_high : k.voxel ≤ℤ greatest 11 k
  pub mu : least 12 k ≤ℤ k.mu
  pub mu_high : k.mu ≤ℤ greatest 12 k
  pub radius : least 13 k ≤ℤ k.radius
  pub radius_high : k.radius ≤ℤ greatest 13 k
  pub centre : least 14 k ≤ℤ k.centre
  pub centre_high : k.centre ≤ℤ greatest 14 k

-- ---- depths

-- a depth that is from near to far
abbrev pub valid_depth : CameraFields → (d : ℤ) → Option ℤ
valid_depth k d = if within k.near k.far d then Some d else None

-- the depth of a raw sample, nothing where the sample is not valid
abbrev pub depth_of : CameraFields → (raw : ℕ) → Option ℤ
depth_of k raw = if raw == 0 then None else valid_depth k (pos raw *ℤ k.unit)

-- ---- rays and projection

-- one coordinate of the ray of pixel u at depth z
abbrev pub ray_axis : (f c u z : ℤ) → ℤ
ray_axis f c u z = floor_div ((pos 65536 *ℤ u -ℤ c) *ℤ z) f

-- the point at depth z on the ray of pixel (u, v)
abbrev pub ray : CameraFields → (u v z : ℤ) → Vec3
ray k u v z = vec (ray_axis k.fx k.cx u z) (ray_axis k.fy k.cy v z) z

-- one coordinate of the pixel nearest to the projection of a point in front of the camera. The suffix `_axis` is for one coordinate of two or three
abbrev pub pixel_axis : (f c x z : ℤ) → ℤ
pixel_axis f c x z = floor_div (f *ℤ x +ℤ c *ℤ z +ℤ pos 32768 *ℤ z) (pos 65536 *ℤ z)

-- whether that pixel is one of the image's
abbrev pub is_in_image : CameraFields → (u v : ℤ) → Bool
is_in_image k u v = within (pos 0) (k.width -ℤ pos 1) u && within (pos 0) (k.height -ℤ pos 1) v

-- whether a camera point projects inside the image: it is in front of the camera, and its pixel is one of the image's
abbrev pub is_inside : CameraFields → Vec3 → Bool
is_inside k p = int_le (pos 1) p.z && is_in_image k (pixel_axis k.fx k.cx p.x p.z) (pixel_axis k.fy k.cy p.y p.z)

-- the pixel of the image that a camera point projects to, if there is one
abbrev pub project : CameraFields → Vec3 → Option (ℕ × ℕ)
project k p = if is_inside k p then Some (unsigned_abs (pixel_axis k.fx k.cx p.x p.z), unsigned_abs (pixel_axis k.fy k.cy p.y p.z)) else None

-- ---- the opening test

-- what the image has on the left of its centre, in 1/65536 pixel
abbrev pub left : (c : ℤ) → ℤ
left c = c +ℤ pos 32768

-- what it has on the right
abbrev pub right : (width c : ℤ) → ℤ
right w c = pos 65536 *ℤ w -ℤ c -ℤ pos 32768

-- the greater one of the two, each by its size
abbrev pub half : (width c : ℤ) → ℤ
half w c = int_max (left c) (pos (unsigned_abs (right w c)))

-- the greatest depth that a frame may touch
abbrev pub max_depth : CameraFields → ℤ
max_depth k = k.far +ℤ k.mu

-- how far a point of the image may lie from the axis at depth z
abbrev pub reach_axis : (z f width c : ℤ) → ℤ
reach_axis z f w c = floor_div (z *ℤ half w c) f +ℤ pos 1

-- on the axis x, at the greatest depth
abbrev pub reach_x : CameraFields → ℤ
reach_x k = reach_axis (max_depth k) k.fx k.width k.cx

-- on the axis y
abbrev pub reach_y : CameraFields → ℤ
reach_y k = reach_axis (max_depth k) k.fy k.height k.cy

-- how far the depths that a frame may touch lie from the centre of the sphere
abbrev pub reach_z : CameraFields → ℤ
reach_z k = int_max k.centre (pos (unsigned_abs (max_depth k -ℤ k.centre)))

-- a margin of less than two blocks, and what rounding may add
abbrev pub opening_margin : CameraFields → ℤ
opening_margin k = pos 14 *ℤ k.voxel +ℤ floor_div (reach_x k +ℤ reach_y k +ℤ max_depth k) (pos 1024) +ℤ pos 16

-- by how much a point of a ray may move, on each axis, when it goes to the world and back
abbrev pub drift : CameraFields → ℤ
drift k = floor_div (reach_x k +ℤ reach_y k +ℤ max_depth k) (pos 4096) +ℤ pos 5

-- each point of a ray, up to the greatest depth that a frame may touch, moves by at most d on each axis, whatever the pose
abbrev pub DriftsWithin : CameraFields → (d : ℤ) → Type 0
DriftsWithin k d = (m : Pose) (u v : ℕ) (z : ℤ) → IsPose m → pos u <ℤ k.width → pos v <ℤ k.height → pos 1 ≤ℤ z → z ≤ℤ max_depth k
    → AreWithin d (minus (cam m (world m (ray k (pos u) (pos v) z))) (ray k (pos u) (pos v) z))

-- z times itself
abbrev pub square : ℤ → ℤ
square z = z *ℤ z

-- the test of HasReach
abbrev pub has_reach : CameraFields → Bool
has_reach k = int_le (reach_x k) (pos 17000000) && int_le (reach_y k) (pos 17000000)

-- the test of FitsSphere
abbrev pub fits_sphere : CameraFields → Bool
fits_sphere k = int_le (square (reach_x k +ℤ opening_margin k) +ℤ square (reach_y k +ℤ opening_margin k) +ℤ square (reach_z k +ℤ opening_margin k)) (square k.radius)

-- all that a frame may touch lies within 17 metres of the axis
pub record HasReach (k : CameraFields) : Type 0 where
  pub x : reach_x k ≤ℤ pos 17000000
  pub y : reach_y k ≤ℤ pos 17000000

-- all that a frame may touch lies in the active sphere, with the margin
pub record FitsSphere (k : CameraFields) : Type 0 where
  pub fits : (square (reach_x k +ℤ opening_margin k) +ℤ square (reach_y k +ℤ opening_margin k) +ℤ square (reach_z k +ℤ opening_margin k)) ≤ℤ square k.radius

-- a camera that passes all tests
pub record IsCamera (k : CameraFields) : Type 0 where
  pub ranges : HasRanges k
  pub reach : HasReach k
  pub sphere : FitsSphere k

-- ---- the active sphere

-- whether a camera point lies in the active sphere, whose centre is the point at the depth `centre` on the axis
abbrev pub is_in_sphere : CameraFields → Vec3 → Bool
is_in_sphere k c = int_le (square c.x +ℤ square c.y +ℤ square (c.z -ℤ k.centre)) (square k.radius)

-- whether a block is active at a pose: its centre lies in the active sphere
abbrev pub is_active : CameraFields → Pose → BlockKey → Bool
is_active k m b = is_in_sphere k (cam m (centre_of k.voxel b))

-- how far the camera point of a block's centre may lie from that of its chunk's centre, on each axis: 49 voxels
abbrev pub chunk_margin : CameraFields → ℤ
chunk_margin k = pos 49 *ℤ k.voxel

-- the least size of a number that is within n of z
abbrev pub least_size : (n z : ℤ) → ℤ
least_size n z = int_max (pos 0) (pos (unsigned_abs z) -ℤ n)

-- whether a point of the active sphere may lie within the chunk margin of the camera point c on each axis
abbrev pub is_near_sphere : CameraFields → Vec3 → Bool
is_near_sphere k c = int_le (square (least_size (chunk_margin k) c.x) +ℤ square (least_size (chunk_margin k) c.y) +ℤ square (least_size (chunk_margin k) (c.z -ℤ k.centre))) (square k.radius)

-- whether a chunk may hold an active block at a pose: the sphere comes within the margin of the chunk's centre
abbrev pub may_hold_active : CameraFields → Pose → ChunkKey → Bool
may_hold_active k m c = is_near_sphere k (cam m (chunk_centre k.voxel c))
