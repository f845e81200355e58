-- Which blocks are visible, which voxels a frame may change, and which blocks a segment goes through.
use Rattle.std.specs.Prelude.{ℕ, ◌<◌, ◌&&◌, Bool, IsTrue, ℤ, pos, neg_ℤ, ◌+ℤ◌, ◌-ℤ◌, ◌*ℤ◌, ◌≤ℤ◌, ◌<ℤ◌, int_le}
use Rattle.std.specs.Int.{int_max, int_min}
use Rattle.fixed_geom.specs.Division.{floor_div}
use Rattle.fixed_geom.specs.declared.vector.Vec3.{Vec3}
use Rattle.fixed_geom.specs.Vectors.{vec, IsWithin}
use Rattle.fixed_geom.specs.Poses.{Pose, cam}
use Rattle.voxel_block.specs.declared.key.BlockKey.{BlockKey}
use Rattle.camera.specs.declared.camera.CameraFields.{CameraFields}
use Rattle.camera.specs.Cameras.{max_depth, is_inside, left, right, within}
use Rattle.camera.specs.Grid.{centre_of, point_of}

-- ---- the visibility test

-- the margin of the test round the camera point of a block's centre, on each axis: 14 voxels
abbrev pub margin : CameraFields → ℤ
margin k = pos 14 *ℤ k.voxel

-- the greatest depth within the margin of z that a frame may touch
abbrev pub side_depth : CameraFields → (z : ℤ) → ℤ
side_depth k z = int_min (z +ℤ margin k) (max_depth k)

-- whether a depth that a frame may touch is within the margin of z
abbrev pub is_at_depth : CameraFields → (z : ℤ) → Bool
is_at_depth k z = int_le (pos 1) (z +ℤ margin k) && int_le (z -ℤ margin k) (max_depth k)

-- whether what is within n of x on one axis reaches between the two sides of the image, as far apart as they are at the depth h
abbrev pub is_between_sides : (f c size n x h : ℤ) → Bool
is_between_sides f c size n x h = int_le (neg_ℤ (left c *ℤ h)) (f *ℤ (x +ℤ n)) && int_le (f *ℤ (x -ℤ n)) (int_max (pos 0) (right size c) *ℤ h)

-- whether points within the margin of a camera point may lie between the left and the right side, and between the upper and the lower one
abbrev pub is_in_view : CameraFields → Vec3 → Bool
is_in_view k c = is_between_sides k.fx k.cx k.width (margin k) c.x (side_depth k c.z) && is_between_sides k.fy k.cy k.height (margin k) c.y (side_depth k c.z)

-- whether a block whose centre has the camera point c is visible
abbrev pub is_visible_at : CameraFields → Vec3 → Bool
is_visible_at k c = is_at_depth k c.z && is_in_view k c

-- whether a block is visible to the camera at a pose
abbrev pub is_visible : CameraFields → Pose → BlockKey → Bool
is_visible k m b = is_visible_at k (cam m (centre_of k.voxel b))

-- ---- voxels that are met

-- a camera point projects inside the image, at a depth of at most far and mu together (inside has a depth of at least 1)
pub record IsMetAt (k : CameraFields) (p : Vec3) : Type 0 where
  pub inside : IsTrue (is_inside k p)
  pub deep : p.z ≤ℤ max_depth k

-- voxel i of block b may be met by a frame of the camera at a pose; the depth map decides whether it is
abbrev pub IsMet : CameraFields → Pose → BlockKey → (i : ℕ) → Type 0
IsMet k m b i = IsMetAt k (cam m (point_of k.voxel b i))

-- no voxel of block b is met, whatever the depth map
abbrev pub MeetsNone : CameraFields → Pose → BlockKey → Type 0
MeetsNone k m b = (i : ℕ) → i < 512 → ¬ IsMet k m b i

-- ---- blocks that a segment goes through

-- on one axis, block b has the point of the segment from a to e at p / q of its length
pub record IsPiercedAxis (s p q a e b : ℤ) : Type 0 where
  pub low : ((pos 8 *ℤ s *ℤ b) *ℤ q) ≤ℤ (a *ℤ q +ℤ p *ℤ (e -ℤ a))
  pub high : (a *ℤ q +ℤ p *ℤ (e -ℤ a)) <ℤ ((pos 8 *ℤ s *ℤ (b +ℤ pos 1)) *ℤ q)

-- block b has the point of the segment from a to e at p / q of its length, where voxels have the size s
pub record IsPiercedAt (s p q : ℤ) (a e : Vec3) (b : BlockKey) : Type 0 where
  pub start : pos 0 ≤ℤ p
  pub finish : p ≤ℤ q
  pub divisor : pos 1 ≤ℤ q
  pub x : IsPiercedAxis s p q a.x e.x b.x
  pub y : IsPiercedAxis s p q a.y e.y b.y
  pub z : IsPiercedAxis s p q a.z e.z b.z

-- sample j of n of the segment from a to e, each coordinate by floor
abbrev pub sample_of : (j n : ℤ) (a e : Vec3) → Vec3
sample_of j n a e = vec (a.x +ℤ floor_div (j *ℤ (e.x -ℤ a.x)) n) (a.y +ℤ floor_div (j *ℤ (e.y -ℤ a.y)) n) (a.z +ℤ floor_div (j *ℤ (e.z -ℤ a.z)) n)

-- each coordinate of a block is from -18876 to 18875
pub record IsNearBlock (b : BlockKey) : Type 0 where
  pub x : IsTrue (within (neg_ℤ (pos 18876)) (pos 18875) b.x)
  pub y : IsTrue (within (neg_ℤ (pos 18876)) (pos 18875) b.y)
  pub z : IsTrue (within (neg_ℤ (pos 18876)) (pos 18875) b.z)

-- each coordinate of the lowest corner of block b, 8 s times that of the block, is at most 2^30 in size
pub record IsInReach (s : ℤ) (b : BlockKey) : Type 0 where
  pub x : IsWithin (pos 1073741824) (pos 8 *ℤ s *ℤ b.x)
  pub y : IsWithin (pos 1073741824) (pos 8 *ℤ s *ℤ b.y)
  pub z : IsWithin (pos 1073741824) (pos 8 *ℤ s *ℤ b.z)
