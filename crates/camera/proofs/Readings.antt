-- Machine numbers that do not wrap, and are read as they are.
use Rattle.std.proofs.Common.{◌≡◌, ◌≤◌, ◌^◌, arith}
use Rattle.std.specs.Prelude.{ℤ, pos, negsuc, ◌+ℤ◌, ◌≤ℤ◌, unsigned_abs}
use Rattle.std.proofs.lemmas.Int.{ints, to_z-of_z, fits_signed_from_abs}
use mir.Val.{SFits, to_z, of_z}
use mir.Syntax.{w64, w128}
use Rattle.fixed_geom.specs.Vectors.{IsWithin}
use Rattle.camera.specs.declared.camera.CameraFields.{CameraFields}
use Rattle.camera.specs.Cameras.{HasRanges}

-- what the machine reads of a number of 64 bits
abbrev pub read : ℤ → ℤ
read z = to_z w64 (of_z w64 z)

-- numbers within 2^60 stay themselves in 64 bits
pub fits64 : (z : ℤ) → IsWithin (pos 1152921504606846976) z → SFits w64 z
fits64 (pos n) w = record { sfits = omega (arith, ints) }
fits64 (negsuc n) w = record { sfits = omega (arith, ints) }

pub same64 : (z : ℤ) → IsWithin (pos 1152921504606846976) z → to_z w64 (of_z w64 z) ≡ z
same64 z w = to_z-of_z w64 z (fits64 z w)

-- what it reads of one of 128 bits
abbrev pub read128 : ℤ → ℤ
read128 z = to_z w128 (of_z w128 z)

pub fits128 : (z : ℤ) → unsigned_abs z ≤ 2 ^ 100 → SFits w128 z
fits128 z h = fits_signed_from_abs w128 z (omega arith)

-- a bound is kept where it grows
pub wider : (m n : ℤ) (z : ℤ) → m ≤ℤ n → IsWithin m z → IsWithin n z
wider m n z h w = record { low = omega (arith, ints); high = omega (arith, ints) }

-- a number of 128 bits that is a bounded number fits 64 bits, and stays itself
pub narrow_fits : (r q : ℤ) → r ≡ q → IsWithin (pos 1152921504606846976) q → SFits w64 (to_z w128 (of_z w128 r))
narrow_fits r q e w =
    let is : to_z w128 (of_z w128 r) ≡ r = omega (arith, ints) in
    rw (is, e) (fits64 q w)

pub narrow_is : (r q : ℤ) → r ≡ q → IsWithin (pos 1152921504606846976) q → to_z w64 (of_z w64 (to_z w128 (of_z w128 r))) ≡ q
narrow_is r q e w =
    let one : to_z w128 (of_z w128 r) ≡ r = omega (arith, ints) in
    rw (one, e) (same64 q w)

-- a sum of two bounded numbers fits 128 bits
pub sum_fits : (p q : ℤ) → unsigned_abs p ≤ 2 ^ 100 → unsigned_abs q ≤ 2 ^ 100 → SFits w128 (to_z w128 (of_z w128 p) +ℤ to_z w128 (of_z w128 q))
sum_fits p q h i = fits_signed_from_abs w128 _ (omega (arith, ints))

-- a number read_between two small ones stays itself in 64 bits
read_between : (low high z : ℤ) → low ≤ℤ z → z ≤ℤ high → pos 0 ≤ℤ low → high ≤ℤ pos 1152921504606846976 → to_z w64 (of_z w64 z) ≡ z
read_between low high z a b c d = same64 z (record { low = omega (arith, ints); high = omega (arith, ints) })

-- the fields of a camera, as they are read
pub record IsRead (k : CameraFields) : Type 0 where
  pub width : to_z w64 (of_z w64 k.width) ≡ k.width
  pub height : to_z w64 (of_z w64 k.height) ≡ k.height
  pub fx : to_z w64 (of_z w64 k.fx) ≡ k.fx
  pub fy : to_z w64 (of_z w64 k.fy) ≡ k.fy
  pub cx : to_z w64 (of_z w64 k.cx) ≡ k.cx
  pub cy : to_z w64 (of_z w64 k.cy) ≡ k.cy
  pub unit : to_z w64 (of_z w64 k.unit) ≡ k.unit
  pub near : to_z w64 (of_z w64 k.near) ≡ k.near
  pub far : to_z w64 (of_z w64 k.far) ≡ k.far
  pub voxel : to_z w64 (of_z w64 k.voxel) ≡ k.voxel
  pub mu : to_z w64 (of_z w64 k.mu) ≡ k.mu
  pub radius : to_z w64 (of_z w64 k.radius) ≡ k.radius
  pub centre : to_z w64 (of_z w64 k.centre) ≡ k.centre

pub fields_read : (k : CameraFields) → HasRanges k → IsRead k
fields_read k r = record {
  width = read_between (pos 1) (pos 2048) k.width r.width r.width_high (omega (arith, ints)) (omega (arith, ints));
  height = read_between (pos 1) (pos 2048) k.height r.height r.height_high (omega (arith, ints)) (omega (arith, ints));
  fx = read_between (pos 1) (pos 1073741824) k.fx r.fx r.fx_high (omega (arith, ints)) (omega (arith, ints));
  fy = read_between (pos 1) (pos 1073741824) k.fy r.fy r.fy_high (omega (arith, ints)) (omega (arith, ints));
  cx = omega (arith, ints, r.cx, r.cx_high, r.width_high);
  cy = omega (arith, ints, r.cy, r.cy_high, r.height_high);
  unit = read_between (pos 1) (pos 100000) k.unit r.unit r.unit_high (omega (arith, ints)) (omega (arith, ints));
  near = omega (arith, ints, r.near, r.far, r.far_high);
  far = omega (arith, ints, r.near, r.far, r.far_high);
  voxel = read_between (pos 1000) (pos 100000) k.voxel r.voxel r.voxel_high (omega (arith, ints)) (omega (arith, ints));
  mu = omega (arith, ints, r.voxel, r.mu, r.mu_high);
  radius = read_between (pos 1) (pos 100000000) k.radius r.radius r.radius_high (omega (arith, ints)) (omega (arith, ints));
  centre = read_between (pos 0) (pos 17000000) k.centre r.centre r.centre_high (omega (arith, ints)) (omega (arith, ints));
}

-- a coordinate of a camera point stays itself in 64 bits
pub wide_read : (z : ℤ) → IsWithin (pos 4398046511104) z → to_z w64 (of_z w64 z) ≡ z
wide_read z w = omega (arith, ints)
