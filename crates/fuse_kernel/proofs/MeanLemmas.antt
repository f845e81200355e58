-- The mean by a product.
use Rattle.std.proofs.Common.{◌≡◌, ℕ, ◌+◌, ◌*◌, ◌/◌, ◌%◌, ◌≤◌, ◌<◌, ◌∙◌, refl, arith, ap, sym}
use Rattle.std.proofs.Math.Nat.{lt_of_mul-lt-mul_right, mod-add-div, mod-lt}
use Rattle.std.specs.Prelude.{ℤ, pos, ◌+ℤ◌, ◌-ℤ◌, ◌*ℤ◌, ◌≤ℤ◌, ◌<ℤ◌}
use Rattle.std.proofs.lemmas.Int.{ints, to_z-of_z}
use mir.Val.{SFits}
use mir.Syntax.{w16}
use Rattle.fixed_geom.specs.Division.{round_div}
use Rattle.fixed_geom.proofs.Floors.{floor_div_is}
use Rattle.fixed_geom.proofs.Whole.{mul_difference, mul_sum}
use Rattle.fixed_geom.proofs.Machine.{read16}
use Rattle.fuse_kernel.specs.Updates.{mean}

-- a number below a multiple has a quotient below the factor
pub below_quotient : (m w k : ℕ) → 0 < w → m < k * w → m / w < k
below_quotient m w k more h = lt_of_mul-lt-mul_right w (under (m / w * w) (w * (m / w)) (m % w) m (k * w) (omega arith) (mod-add-div m w) h)
  where
    under : (a b r m t : ℕ) → a ≡ b → r + b ≡ m → m < t → a < t
    under a b r m t e f h = omega arith

-- the mean is the floor of the raised sum, less what it was raised by
pub mean_is_floor : (a : ℤ) (m w : ℕ) → 1 ≤ w → pos m ≡ a +ℤ pos (32768 * w + w / 2) → round_div a (pos w) ≡ pos (m / w) -ℤ pos 32768
mean_is_floor a m w least is =
    let q : ℕ = m / w in
    let product : (pos 2 *ℤ pos w) *ℤ (pos q -ℤ pos 32768) ≡ (pos 2 *ℤ pos w) *ℤ pos q -ℤ (pos 2 *ℤ pos w) *ℤ pos 32768 = mul_difference (pos 2 *ℤ pos w) (pos q) (pos 32768) in
    let first : (pos 2 *ℤ pos w) *ℤ pos q ≡ pos (2 * (w * q)) = ap pos (omega arith) in
    let second : (pos 2 *ℤ pos w) *ℤ pos 32768 ≡ pos (65536 * w) = ap pos (omega arith) in
    floor_div_is (pos 2 *ℤ a +ℤ pos w) (pos 2 *ℤ pos w) (pos q -ℤ pos 32768) (omega (arith, ints))
    (record {
      below = low a ((pos 2 *ℤ pos w) *ℤ (pos q -ℤ pos 32768)) m w (w * q) (m % w) (product ∙ rw (first, second) refl) (mod-add-div m w) is;
      above = high a ((pos 2 *ℤ pos w) *ℤ (pos q -ℤ pos 32768)) m w (w * q) (m % w) (product ∙ rw (first, second) refl) (mod-add-div m w) (mod-lt m (omega arith)) is;
    })
  where
    low : (a x : ℤ) (m w wq r : ℕ) → x ≡ pos (2 * wq) -ℤ pos (65536 * w) → r + wq ≡ m → pos m ≡ a +ℤ pos (32768 * w + w / 2) → x ≤ℤ (pos 2 *ℤ a +ℤ pos w)
    low a x m w wq r e split is = omega (arith, ints)

    high : (a x : ℤ) (m w wq r : ℕ) → x ≡ pos (2 * wq) -ℤ pos (65536 * w) → r + wq ≡ m → r < w → pos m ≡ a +ℤ pos (32768 * w + w / 2) → (pos 2 *ℤ a +ℤ pos w) <ℤ (x +ℤ (pos 2 *ℤ pos w))
    high a x m w wq r e split less is = omega (arith, ints)

-- the sum of raised distances is the raised sum
raised_is : (w m p q : ℕ) (old new : ℤ) → pos p ≡ old +ℤ pos 32768 → pos q ≡ new +ℤ pos 32768 → m ≡ w * p + q + (w + 1) / 2 → pos m ≡ (pos w *ℤ old +ℤ new) +ℤ pos (32768 * (w + 1) + (w + 1) / 2)
raised_is w m p q old new ep eq em =
    let product : pos (w * p) ≡ (pos w *ℤ old) +ℤ (pos w *ℤ pos 32768) = ap (λ z. pos w *ℤ z) ep ∙ mul_sum (pos w) old (pos 32768) in
    linear w (w * p) m q (pos w *ℤ old) new product eq em
  where
    linear : (w wp m q : ℕ) (wo new : ℤ) → pos wp ≡ wo +ℤ pos (w * 32768) → pos q ≡ new +ℤ pos 32768 → m ≡ wp + q + (w + 1) / 2 → pos m ≡ (wo +ℤ new) +ℤ pos (32768 * (w + 1) + (w + 1) / 2)
    linear w wp m q wo new e f g = omega (arith, ints)

-- the mean, by the quotient of that sum
pub mean_is : (w m p q n : ℕ) (old new r : ℤ) → pos p ≡ old +ℤ pos 32768 → pos q ≡ new +ℤ pos 32768 → m ≡ w * p + q + (w + 1) / 2 → n ≡ m / (w + 1) → r ≡ pos n -ℤ pos 32768 → r ≡ mean w old new
mean_is w m p q n old new r ep eq em en er =
    er ∙ ap (λ z. pos z -ℤ pos 32768) en ∙ sym (mean_is_floor (pos w *ℤ old +ℤ new) m (w + 1) (omega arith) (raised_is w m p q old new ep eq em))

-- as the machine reads them
pub mean_read : (w m p q n : ℕ) (old new r : ℤ) → SFits w16 old → SFits w16 new → pos p ≡ read16 old +ℤ pos 32768 → pos q ≡ read16 new +ℤ pos 32768 → m ≡ w * p + q + (w + 1) / 2 → n ≡ m / (w + 1) → n ≤ 65535 → r ≡ pos n -ℤ pos 32768 → read16 r ≡ mean w old new
mean_read w m p q n old new r fo fn ep eq em en small er =
    let same : read16 r ≡ r = omega (arith, ints) in
    same ∙ mean_is w m p q n old new r (ep ∙ rw (to_z-of_z w16 old fo) refl) (eq ∙ rw (to_z-of_z w16 new fn) refl) em en er
