-- The points of a walk: how many there are, and how deep they are.
use Rattle.std.proofs.Common.{◌≡◌, ℕ, ◌+◌, ◌<◌, ◌≤◌, arith}
use Rattle.std.specs.Prelude.{ℤ, pos, ◌+ℤ◌, ◌-ℤ◌, ◌*ℤ◌, ◌≤ℤ◌, ◌<ℤ◌, unsigned_abs, IsTrue}
use Rattle.std.proofs.lemmas.Int.{ints}
use mir.Val.{to_z, of_z}
use mir.Syntax.{w64}
use Rattle.fixed_geom.specs.Division.{IsFloor, floor_div}
use Rattle.fixed_geom.specs.Poses.{Pose, IsPose}
use Rattle.fixed_geom.proofs.Floors.{floor_is, floor_above, floor_below}
use Rattle.fixed_geom.proofs.Whole.{mul_order}
use Rattle.camera.specs.declared.camera.CameraFields.{CameraFields}
use Rattle.camera.specs.Cameras.{HasRanges, IsCamera, is_active, max_depth}
use Rattle.camera.specs.Grid.{block_of_voxel, is_key}
use Rattle.camera.proofs.RayBack.{pixel_of}
use Rattle.camera.proofs.Walk.{walk_is_active, walk_has_key}
use Rattle.ray_walk.specs.Points.{point_count, point_depth, voxel_at}

-- the number of steps
abbrev pub steps : CameraFields → ℤ
steps k = floor_div (k.far -ℤ k.near) k.voxel

pub steps_are : (k : CameraFields) → HasRanges k → IsFloor (k.far -ℤ k.near) k.voxel (steps k)
steps_are k r = floor_is (k.far -ℤ k.near) k.voxel (omega (arith, ints, r.voxel))

pub steps_low : (k : CameraFields) → HasRanges k → pos 0 ≤ℤ steps k
steps_low k r = floor_above (k.far -ℤ k.near) k.voxel (steps k) (pos 0) (omega (arith, ints, r.voxel)) (steps_are k r) (none k.voxel k.near k.far r.far)
  where
    none : (s near far : ℤ) → near ≤ℤ far → (s *ℤ pos 0) ≤ℤ (far -ℤ near)
    none s near far h = omega (arith, ints)

pub steps_high : (k : CameraFields) → HasRanges k → steps k ≤ℤ pos 15999
steps_high k r = floor_below (k.far -ℤ k.near) k.voxel (steps k) (pos 15999) (omega (arith, ints, r.voxel)) (steps_are k r) (most k.voxel k.near k.far r.voxel r.near r.far_high)
  where
    most : (s near far : ℤ) → pos 1000 ≤ℤ s → pos 1 ≤ℤ near → far ≤ℤ pos 16000000 → (far -ℤ near) <ℤ (s *ℤ pos 15999 +ℤ s)
    most s near far a b c = omega (arith, ints)

abs_is : (z : ℤ) → pos 0 ≤ℤ z → pos (unsigned_abs z + 1) ≡ z +ℤ pos 1
abs_is z h = omega (arith, ints)

pub count_is : (k : CameraFields) → HasRanges k → pos (point_count k) ≡ steps k +ℤ pos 1
count_is k r = abs_is (steps k) (steps_low k r)

-- a point is past near
pub depth_near : (k : CameraFields) (j : ℕ) → HasRanges k → k.near ≤ℤ point_depth k j
depth_near k j r = plain k.near k.voxel (k.voxel *ℤ pos j) (mul_order k.voxel (pos 0) (pos j) (omega (arith, ints, r.voxel)) (omega (arith, ints)))
  where
    plain : (near s sj : ℤ) → (s *ℤ pos 0) ≤ℤ sj → near ≤ℤ (near +ℤ sj)
    plain near s sj h = omega (arith, ints)

-- and not past far
pub depth_far : (k : CameraFields) (j : ℕ) → HasRanges k → j < point_count k → point_depth k j ≤ℤ k.far
depth_far k j r low =
    let at : pos j ≤ℤ steps k = below (steps k) (point_count k) j (count_is k r) low in
    plain k.near k.far (k.voxel *ℤ pos j) (k.voxel *ℤ steps k) (mul_order k.voxel (pos j) (steps k) (omega (arith, ints, r.voxel)) at) (steps_are k r).below
  where
    below : (q : ℤ) (n j : ℕ) → pos n ≡ q +ℤ pos 1 → j < n → pos j ≤ℤ q
    below q n j e h = omega (arith, ints)

    plain : (near far sj sq : ℤ) → sj ≤ℤ sq → sq ≤ℤ (far -ℤ near) → (near +ℤ sj) ≤ℤ far
    plain near far sj sq a b = omega (arith, ints)

-- a point that is not past far is one of the walk's
pub far_point : (k : CameraFields) (j : ℕ) → HasRanges k → point_depth k j ≤ℤ k.far → j < point_count k
far_point k j r h =
    let at : pos j ≤ℤ steps k = floor_above (k.far -ℤ k.near) k.voxel (steps k) (pos j) (omega (arith, ints, r.voxel)) (steps_are k r) (plain k.near k.far (k.voxel *ℤ pos j) h) in
    below (steps k) (point_count k) j (count_is k r) at
  where
    below : (q : ℤ) (n j : ℕ) → pos n ≡ q +ℤ pos 1 → pos j ≤ℤ q → j < n
    below q n j e h = omega (arith, ints)

    plain : (near far sj : ℤ) → (near +ℤ sj) ≤ℤ far → sj ≤ℤ (far -ℤ near)
    plain near far sj h = omega (arith, ints)

-- so a frame may touch it
pub depth_front : (k : CameraFields) (j : ℕ) → HasRanges k → pos 1 ≤ℤ point_depth k j
depth_front k j r = plain k.near (point_depth k j) r.near (depth_near k j r)
  where
    plain : (near z : ℤ) → pos 1 ≤ℤ near → near ≤ℤ z → pos 1 ≤ℤ z
    plain near z a b = omega (arith, ints)

pub far_deep : (k : CameraFields) (z : ℤ) → HasRanges k → z ≤ℤ k.far → z ≤ℤ max_depth k
far_deep k z r h = plain k.far k.voxel k.mu z r.voxel r.mu h
  where
    plain : (far s mu z : ℤ) → pos 1000 ≤ℤ s → s ≤ℤ mu → z ≤ℤ far → z ≤ℤ (far +ℤ mu)
    plain far s mu z a b c = omega (arith, ints)

-- each point reads a voxel of an active block whose coordinates fit 16 bits
pub point_is_active : (k : CameraFields) (m : Pose) (u v j : ℕ) → IsCamera k → IsPose m → pos u <ℤ k.width → pos v <ℤ k.height → j < point_count k
    → IsTrue (is_active k m (block_of_voxel (voxel_at k m u v (point_depth k j)))) × IsTrue (is_key (block_of_voxel (voxel_at k m u v (point_depth k j))))
point_is_active k m u v j o w uw vh low =
    let z = point_depth k j in
    let i = pixel_of k u v uw vh in
    let front = depth_front k j o.ranges in
    let back = far_deep k z o.ranges (depth_far k j o.ranges low) in
    (walk_is_active k m (pos u) (pos v) z o.ranges o.sphere w i front back, walk_has_key k m (pos u) (pos v) z o.ranges o.reach w.range i front back)

-- ---- machine numbers

-- what the machine reads of a number of 64 bits
abbrev pub read : ℤ → ℤ
read z = to_z w64 (of_z w64 z)

pub read_difference : (near far : ℤ) → pos 1 ≤ℤ near → near ≤ℤ far → far ≤ℤ pos 16000000 → read (read far -ℤ read near) ≡ far -ℤ near
read_difference near far a b c = omega (arith, ints)

pub read_sum : (z q top : ℤ) → pos 1 ≤ℤ z → pos 0 ≤ℤ q → (z +ℤ q) ≤ℤ top → top ≤ℤ pos 17000000 → read (read z +ℤ read q) ≡ z +ℤ q
read_sum z q top a b c d = omega (arith, ints)

pub few_points : (k : CameraFields) (j : ℕ) → HasRanges k → j < point_count k → j ≤ 15999
few_points k j r low = plain (steps k) (point_count k) j (steps_high k r) (count_is k r) low
  where
    plain : (q : ℤ) (n j : ℕ) → q ≤ℤ pos 15999 → pos n ≡ q +ℤ pos 1 → j < n → j ≤ 15999
    plain q n j a b c = omega (arith, ints)

pub read_few : (j : ℕ) (x : ℤ) → j ≤ 15999 → x ≡ pos j → read x ≡ pos j
read_few j x h e = omega (arith, ints)

pub product_low : (s : ℤ) (j : ℕ) → pos 0 ≤ℤ s → pos 0 ≤ℤ (s *ℤ pos j)
product_low s j h = plain s (s *ℤ pos j) (mul_order s (pos 0) (pos j) h (omega (arith, ints)))
  where
    plain : (s sj : ℤ) → (s *ℤ pos 0) ≤ℤ sj → pos 0 ≤ℤ sj
    plain s sj h = omega (arith, ints)
