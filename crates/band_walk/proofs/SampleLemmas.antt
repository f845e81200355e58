-- The samples of a segment: they lie between its ends, and their blocks fit 16 bits.
use Rattle.std.proofs.Common.{◌≡◌, ◌∙◌, ℕ, ◌≤◌, ap, sym, arith}
use Rattle.std.specs.Prelude.{ℤ, pos, neg_ℤ, ◌+ℤ◌, ◌-ℤ◌, ◌*ℤ◌, ◌≤ℤ◌, ◌<ℤ◌}
use Rattle.std.proofs.lemmas.Int.{ints, by_lt_z}
use Rattle.fixed_geom.specs.Division.{IsFloor, floor_div}
use Rattle.fixed_geom.specs.Vectors.{IsWithin}
use Rattle.fixed_geom.proofs.Whole.{mul_neg, mul_turn, mul_order}
use Rattle.fixed_geom.proofs.Floors.{floor_is, floor_above, floor_below, floor_div_is}
use Rattle.fixed_geom.proofs.Wide.{same_vec}
use Rattle.fixed_geom.specs.declared.vector.Vec3.{Vec3}
use Rattle.band_walk.specs.Bands.{segment_point}

-- ---- samples

-- j parts of n of an offset are between none of it and all of it
rising : (d n j q : ℤ) → pos 0 ≤ℤ d → pos 0 ≤ℤ j → j ≤ℤ n → pos 1 ≤ℤ n → IsFloor (j *ℤ d) n q → (pos 0 ≤ℤ q) × (q ≤ℤ d)
rising d n j q d0 j0 jn n1 f = (
  floor_above (j *ℤ d) n q (pos 0) n1 f (low (n *ℤ pos 0) (j *ℤ pos 0) (j *ℤ d) (omega (arith, ints)) (omega (arith, ints)) (mul_order j (pos 0) d j0 d0)),
  floor_below (j *ℤ d) n q d n1 f (high (j *ℤ d) (d *ℤ j) (d *ℤ n) (n *ℤ d) n (mul_turn j d) (mul_turn d n) (mul_order d j n d0 jn) n1),
)
  where
    low : (n0 j0 jd : ℤ) → n0 ≡ pos 0 → j0 ≡ pos 0 → j0 ≤ℤ jd → n0 ≤ℤ jd
    low n0 j0 jd a b c = omega (arith, ints)

    high : (jd dj dn nd n : ℤ) → jd ≡ dj → dn ≡ nd → dj ≤ℤ dn → pos 1 ≤ℤ n → jd <ℤ (nd +ℤ n)
    high jd dj dn nd n a b c h = omega (arith, ints)

falling : (d n j q : ℤ) → d ≤ℤ pos 0 → pos 0 ≤ℤ j → j ≤ℤ n → pos 1 ≤ℤ n → IsFloor (j *ℤ d) n q → (d ≤ℤ q) × (q ≤ℤ pos 0)
falling d n j q d0 j0 jn n1 f = (
  floor_above (j *ℤ d) n q d n1 f (low (n *ℤ d) (j *ℤ d) (neg_ℤ d *ℤ j) (neg_ℤ d *ℤ n) (j *ℤ neg_ℤ d) (n *ℤ neg_ℤ d) (mul_turn (neg_ℤ d) j) (mul_turn (neg_ℤ d) n) (mul_neg j d) (mul_neg n d) (mul_order (neg_ℤ d) j n (omega (arith, ints)) jn)),
  floor_below (j *ℤ d) n q (pos 0) n1 f (high (j *ℤ d) (j *ℤ pos 0) (n *ℤ pos 0) n (omega (arith, ints)) (omega (arith, ints)) (mul_order j d (pos 0) j0 d0) n1),
)
  where
    low : (nd jd pj pn jp np : ℤ) → pj ≡ jp → pn ≡ np → jp ≡ neg_ℤ jd → np ≡ neg_ℤ nd → pj ≤ℤ pn → nd ≤ℤ jd
    low nd jd pj pn jp np a b c d e = omega (arith, ints)

    high : (jd j0 n0 n : ℤ) → j0 ≡ pos 0 → n0 ≡ pos 0 → jd ≤ℤ j0 → pos 1 ≤ℤ n → jd <ℤ (n0 +ℤ n)
    high jd j0 n0 n a b c h = omega (arith, ints)

-- a sample is as near to the origin as the ends are
pub sample_axis_within : (w a e n j : ℤ) → pos 0 ≤ℤ j → j ≤ℤ n → pos 1 ≤ℤ n → IsWithin w a → IsWithin w e → IsWithin w (a +ℤ floor_div (j *ℤ (e -ℤ a)) n)
sample_axis_within w a e n j j0 jn n1 v i =
    let d = e -ℤ a in
    let q = floor_div (j *ℤ d) n in
    let f = floor_is (j *ℤ d) n n1 in
    by_lt_z (pos 0) d
    (λ (l : pos 0 <ℤ d). up w a e q v i (rising d n j q (omega (arith, ints)) j0 jn n1 f))
    (λ (m : d ≤ℤ pos 0). down w a e q v i (falling d n j q m j0 jn n1 f))
  where
    up : (w a e q : ℤ) → IsWithin w a → IsWithin w e → (pos 0 ≤ℤ q) × (q ≤ℤ (e -ℤ a)) → IsWithin w (a +ℤ q)
    up w a e q v i t = record { low = omega (arith, ints, t.0, t.1); high = omega (arith, ints, t.0, t.1) }

    down : (w a e q : ℤ) → IsWithin w a → IsWithin w e → ((e -ℤ a) ≤ℤ q) × (q ≤ℤ pos 0) → IsWithin w (a +ℤ q)
    down w a e q v i t = record { low = omega (arith, ints, t.0, t.1); high = omega (arith, ints, t.0, t.1) }

-- ---- samples at the ends

pub first_axis : (a e n : ℤ) → pos 1 ≤ℤ n → a +ℤ floor_div (pos 0 *ℤ (e -ℤ a)) n ≡ a
first_axis a e n n1 =
    let zero : floor_div (pos 0 *ℤ (e -ℤ a)) n ≡ pos 0 = floor_div_is (pos 0 *ℤ (e -ℤ a)) n (pos 0) n1 (record { below = omega (arith, ints); above = omega (arith, ints) }) in
    ap (λ q. a +ℤ q) zero ∙ (omega (arith, ints))

pub last_axis : (a e n : ℤ) → pos 1 ≤ℤ n → a +ℤ floor_div (n *ℤ (e -ℤ a)) n ≡ e
last_axis a e n n1 = plain a e (floor_div (n *ℤ (e -ℤ a)) n) (floor_div_is (n *ℤ (e -ℤ a)) n (e -ℤ a) n1 (record { below = same (n *ℤ (e -ℤ a)); above = more n (n *ℤ (e -ℤ a)) n1 }))
  where
    plain : (a e q : ℤ) → q ≡ e -ℤ a → a +ℤ q ≡ e
    plain a e q is = omega (arith, ints)

    same : (x : ℤ) → x ≤ℤ x
    same x = omega (arith, ints)

    more : (n x : ℤ) → pos 1 ≤ℤ n → x <ℤ (x +ℤ n)
    more n x n1 = omega (arith, ints)

-- sample 0 is the start, and sample n the end
pub first_sample : (a e : Vec3) (n : ℕ) → 1 ≤ n → a ≡ segment_point a e n 0
first_sample a e n least =
    let some : pos 1 ≤ℤ pos n = omega (arith, ints) in
    sym (same_vec _ _ _ _ _ _ (first_axis a.x e.x (pos n) some) (first_axis a.y e.y (pos n) some) (first_axis a.z e.z (pos n) some))

pub last_sample : (a e : Vec3) (n : ℕ) → 1 ≤ n → e ≡ segment_point a e n n
last_sample a e n least =
    let some : pos 1 ≤ℤ pos n = omega (arith, ints) in
    sym (same_vec _ _ _ _ _ _ (last_axis a.x e.x (pos n) some) (last_axis a.y e.y (pos n) some) (last_axis a.z e.z (pos n) some))
