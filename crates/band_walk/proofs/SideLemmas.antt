-- The block of a coordinate by a product.
use Rattle.std.proofs.Common.{◌≡◌, ℕ, ◌+◌, ◌*◌, ◌/◌, ◌%◌, ◌≤◌, ◌<◌, ◌∙◌, refl, arith, ap, sym}
use Rattle.std.proofs.Math.Nat.{lt_of_mul-lt-mul_right, mod-add-div, mul-le-mul_right}
use Rattle.std.specs.Prelude.{ℤ, pos, negsuc, ◌+ℤ◌, ◌-ℤ◌, ◌*ℤ◌, ◌≤ℤ◌, unsigned_abs}
use Rattle.std.proofs.lemmas.Int.{ints, to_z-of_z}
use Rattle.std.proofs.lemmas.Nat.{mul-le}
use mir.Val.{SFits}
use mir.Syntax.{w64}
use Rattle.fixed_geom.specs.Division.{floor_div}
use Rattle.camera.specs.Grid.{block}
use Rattle.fixed_geom.proofs.Machine.{read}
use Rattle.fixed_geom.proofs.Raised.{raised_floor}

-- ---- the product

pub below_quotient : (m w k : ℕ) → 0 < w → m < k * w → m / w < k
below_quotient m w k more h = lt_of_mul-lt-mul_right w (under (m / w * w) (w * (m / w)) (m % w) m (k * w) (omega arith) (mod-add-div m w) h)
  where
    under : (a b r m t : ℕ) → a ≡ b → r + b ≡ m → m < t → a < t
    under a b r m t e f h = omega arith

pub raised_small : (n f : ℕ) → f ≤ 800000 → n < 65536 * f → n * f < 18446744073709551616
raised_small n f most less =
    let front : n ≤ 65536 * f = omega arith in
    plain (n * f) (f * f) (65536 * f * f) (mul-le-mul_right f front) (omega arith) (mul-le f f 800000 800000 most most)
  where
    plain : (nf ff big : ℕ) → nf ≤ big → big ≡ 65536 * ff → ff ≤ 640000000000 → nf < 18446744073709551616
    plain nf ff big a b c = omega arith

pub twice_small : (n f : ℕ) → f ≤ 800000 → n ≤ 604024904 → n * f < 18446744073709551616
twice_small n f most less = plain (n * f) (mul-le n f 604024904 800000 less most)
  where
    plain : (nf : ℕ) → nf ≤ 483219923200000 → nf < 18446744073709551616
    plain nf a = omega arith

-- ---- what it is

axis_is : (s n : ℕ) (p : ℤ) → 1 ≤ s → pos n ≡ p +ℤ pos (262144 * s) → floor_div p (pos 8 *ℤ pos s) ≡ pos (n / (8 * s)) -ℤ pos 32768
axis_is s n p least is = raised_floor (8 * s) 32768 n p (omega arith) (is ∙ ap (λ z. p +ℤ pos z) (omega arith))

lowered_is : (voxel p : ℤ) (n q : ℕ) → pos 1000 ≤ℤ voxel → pos n ≡ p +ℤ pos 262144 *ℤ voxel → q ≡ n / (8 * unsigned_abs voxel) → pos q -ℤ pos 32768 ≡ floor_div p (pos 8 *ℤ voxel)
lowered_is (pos s) p n q least is eq = ap (λ z. pos z -ℤ pos 32768) eq ∙ sym (axis_is s n p (omega (arith, ints)) is)
lowered_is (negsuc s) p n q least is eq = absurd (omega (arith, ints))

-- as the machine reads it
pub axis_read : (voxel p : ℤ) (n q : ℕ) → pos 1000 ≤ℤ voxel → voxel ≤ℤ pos 100000 → SFits w64 p → pos n ≡ read p +ℤ pos 262144 *ℤ read voxel → q ≡ n / (8 * unsigned_abs (read voxel)) → pos q -ℤ pos 32768 ≡ floor_div p (pos 8 *ℤ voxel)
axis_read voxel p n q least most fits is eq =
    let one : read voxel ≡ voxel = omega (arith, ints) in
    lowered_is voxel p n q least (is ∙ rw (one, to_z-of_z w64 p fits) refl) (eq ∙ rw one refl)

-- the block of three coordinates
pub same_block : (x y z a b c : ℤ) → x ≡ a → y ≡ b → z ≡ c → block x y z ≡ block a b c
same_block x y z a b c e f g = rw (e, f, g) refl

-- ---- halves of a block

halves_of : (s offset n q : ℕ) → 1 ≤ s → n ≡ 2 * offset → q ≡ n / (8 * s) → q ≡ unsigned_abs (floor_div (pos 2 *ℤ pos offset) (pos 8 *ℤ pos s))
halves_of s offset n q least en eq =
    let plain : floor_div (pos 2 *ℤ pos offset) (pos (8 * s)) ≡ pos (n / (8 * s)) -ℤ pos 0 = raised_floor (8 * s) 0 n (pos 2 *ℤ pos offset) (omega arith) (omega (arith, ints)) in
    eq ∙ sym (ap unsigned_abs plain ∙ same (n / (8 * s)))
  where
    same : (x : ℕ) → unsigned_abs (pos x -ℤ pos 0) ≡ x
    same x = omega (arith, ints)

pub halves_read : (voxel : ℤ) (offset n q : ℕ) → pos 1000 ≤ℤ voxel → voxel ≤ℤ pos 100000 → n ≡ 2 * offset → q ≡ n / (8 * unsigned_abs (read voxel)) → q ≡ unsigned_abs (floor_div (pos 2 *ℤ pos offset) (pos 8 *ℤ voxel))
halves_read (pos s) offset n q least most en eq =
    let one : read (pos s) ≡ pos s = omega (arith, ints) in
    halves_of s offset n q (omega (arith, ints)) en (eq ∙ ap (λ z. n / (8 * unsigned_abs z)) one)
halves_read (negsuc s) offset n q least most en eq = absurd (omega (arith, ints))
