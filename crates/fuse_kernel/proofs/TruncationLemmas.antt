-- The truncated distance by a product.
use Rattle.std.proofs.Common.{◌≡◌, ℕ, ◌+◌, ◌*◌, ◌/◌, ◌%◌, ◌≤◌, ◌<◌, ◌∙◌, refl, arith, ap, sym}
use Rattle.std.proofs.Math.Nat.{mod-add-div, mod-lt, mul-div_right, mul-le-mul_right}
use Rattle.std.specs.Prelude.{ℤ, pos, negsuc, ◌+ℤ◌, ◌-ℤ◌, ◌*ℤ◌, ◌≤ℤ◌, ◌<ℤ◌, unsigned_abs}
use Rattle.std.specs.Int.{int_min}
use Rattle.std.proofs.lemmas.Int.{ints, clamps, by_lt_z, to_z-of_z}
use mir.Val.{SFits}
use mir.Syntax.{w64}
use Rattle.std.proofs.lemmas.Nat.{mul-le}
use Rattle.fixed_geom.specs.Division.{floor_div}
use Rattle.fixed_geom.proofs.Floors.{floor_is, floor_above, floor_below, floor_div_is}
use Rattle.fixed_geom.proofs.Whole.{mul_difference}
use Rattle.fixed_geom.proofs.Machine.{read, read16}
use Rattle.fixed_geom.proofs.ProductFloors.{product_of}
use Rattle.fuse_kernel.proofs.MeanLemmas.{below_quotient}
use Rattle.fuse_kernel.specs.Updates.{tsdf}

-- ---- the product

pub product_small : (e mu : ℕ) → mu ≤ 1000000 → e ≤ 2 * mu → e * mu < 2199023255552
product_small e mu most le = omega (arith, mul-le-mul_right mu le, mul-le mu mu 1000000 1000000 most most)

pub scaled_is : (e mu reciprocal : ℕ) → 1 ≤ mu → mu ≤ 1000000 → e ≤ 2 * mu → reciprocal ≡ 32767 * 2199023255552 / mu + 1 → e * reciprocal / 2199023255552 ≡ 32767 * e / mu
scaled_is e mu reciprocal least most le made = product_of 32767 e mu reciprocal 2199023255552 least made (product_small e mu most le)

pub scaled_small : (e mu reciprocal : ℕ) → 1 ≤ mu → mu ≤ 1000000 → e ≤ 2 * mu → reciprocal ≡ 32767 * 2199023255552 / mu + 1 → e * reciprocal / 2199023255552 ≤ 65534
scaled_small e mu reciprocal least most le made = ended (e * reciprocal / 2199023255552) (32767 * e / mu) (scaled_is e mu reciprocal least most le made) (below_quotient (32767 * e) mu 65535 least (omega arith))
  where
    ended : (a b : ℕ) → a ≡ b → b < 65535 → a ≤ 65534
    ended a b e h = omega arith

-- it fits 64 bits
pub product_fits : (e mu reciprocal : ℕ) → mu ≤ 1000000 → e ≤ 2 * mu → reciprocal ≡ 32767 * 2199023255552 / mu + 1 → e * reciprocal < 18446744073709551616
product_fits e mu reciprocal most le made = plain e mu reciprocal (32767 * 2199023255552 / mu) (mu * (32767 * 2199023255552 / mu)) (32767 * 2199023255552 % mu) most made refl (mod-add-div (32767 * 2199023255552) mu) (mul-le-mul_right reciprocal le)
  where
    plain : (e mu reciprocal g mg r : ℕ) → mu ≤ 1000000 → reciprocal ≡ g + 1 → mg ≡ mu * g → r + mg ≡ 72055395014672384 → e * reciprocal ≤ 2 * mu * reciprocal → e * reciprocal < 18446744073709551616
    plain e mu reciprocal g mg r most made is split le = omega (arith, ap (λ z. mu * z) made)

-- ---- what it is

-- from mu on it is the greatest one
tsdf_far : (mu eta : ℤ) → pos 1 ≤ℤ mu → mu ≤ℤ eta → pos 32767 ≡ tsdf mu eta
tsdf_far mu eta h k = ended (floor_div (pos 32767 *ℤ eta) mu) (floor_above (pos 32767 *ℤ eta) mu (floor_div (pos 32767 *ℤ eta) mu) (pos 32767) h (floor_is (pos 32767 *ℤ eta) mu h) (under mu eta (mu *ℤ pos 32767) (omega (arith, ints)) k))
  where
    under : (mu eta x : ℤ) → x ≡ pos 32767 *ℤ mu → mu ≤ℤ eta → x ≤ℤ (pos 32767 *ℤ eta)
    under mu eta x e k = omega (arith, ints)

    ended : (q : ℤ) → pos 32767 ≤ℤ q → pos 32767 ≡ int_min (pos 32767) q
    ended q h = omega (arith, ints, clamps)

-- before mu it is the quotient
tsdf_near : (mu eta : ℤ) → pos 1 ≤ℤ mu → eta <ℤ mu → floor_div (pos 32767 *ℤ eta) mu ≡ tsdf mu eta
tsdf_near mu eta h k = ended (floor_div (pos 32767 *ℤ eta) mu) (floor_below (pos 32767 *ℤ eta) mu (floor_div (pos 32767 *ℤ eta) mu) (pos 32766) h (floor_is (pos 32767 *ℤ eta) mu h) (past mu eta (mu *ℤ pos 32766) (omega (arith, ints)) k))
  where
    past : (mu eta x : ℤ) → x ≡ pos 32766 *ℤ mu → eta <ℤ mu → (pos 32767 *ℤ eta) <ℤ (x +ℤ mu)
    past mu eta x e k = omega (arith, ints)

    ended : (q : ℤ) → q ≤ℤ pos 32766 → q ≡ int_min (pos 32767) q
    ended q h = omega (arith, ints, clamps)

far_is : (m e : ℕ) (eta : ℤ) → 1 ≤ m → pos m ≤ℤ eta → pos e ≡ int_min eta (pos m) +ℤ pos m → pos (32767 * e / m) -ℤ pos 32767 ≡ tsdf (pos m) eta
far_is m e eta least far is =
    let twice : 32767 * e ≡ m * 65534 = omega (arith, ints, clamps) in
    let whole : 32767 * e / m ≡ 65534 = ap (λ z. z / m) twice ∙ mul-div_right 65534 least in
    ap (λ z. pos z -ℤ pos 32767) whole ∙ tsdf_far (pos m) eta (omega (arith, ints)) far

near_is : (m e : ℕ) (eta : ℤ) → 1 ≤ m → eta <ℤ pos m → pos e ≡ int_min eta (pos m) +ℤ pos m → pos (32767 * e / m) -ℤ pos 32767 ≡ tsdf (pos m) eta
near_is m e eta least near is =
    let q : ℕ = 32767 * e / m in
    let raised : pos e ≡ eta +ℤ pos m = omega (arith, ints, clamps) in
    let product : pos m *ℤ (pos q -ℤ pos 32767) ≡ pos (m * q) -ℤ pos (m * 32767) = mul_difference (pos m) (pos q) (pos 32767) in
    sym (floor_div_is (pos 32767 *ℤ eta) (pos m) (pos q -ℤ pos 32767) (omega (arith, ints))
    (record {
      below = low m e (m * q) (32767 * e % m) (pos m *ℤ (pos q -ℤ pos 32767)) eta product raised (mod-add-div (32767 * e) m);
      above = high m e (m * q) (32767 * e % m) (pos m *ℤ (pos q -ℤ pos 32767)) eta product raised (mod-add-div (32767 * e) m) (mod-lt (32767 * e) least);
    }))
    ∙ tsdf_near (pos m) eta (omega (arith, ints)) near
  where
    low : (m e mq r : ℕ) (x eta : ℤ) → x ≡ pos mq -ℤ pos (m * 32767) → pos e ≡ eta +ℤ pos m → r + mq ≡ 32767 * e → x ≤ℤ (pos 32767 *ℤ eta)
    low m e mq r x eta ex raised split = omega (arith, ints)

    high : (m e mq r : ℕ) (x eta : ℤ) → x ≡ pos mq -ℤ pos (m * 32767) → pos e ≡ eta +ℤ pos m → r + mq ≡ 32767 * e → r < m → (pos 32767 *ℤ eta) <ℤ (x +ℤ pos m)
    high m e mq r x eta ex raised split less = omega (arith, ints)

pub tsdf_is : (mu eta : ℤ) (e n : ℕ) → pos 1 ≤ℤ mu → pos e ≡ int_min eta mu +ℤ mu → n ≡ 32767 * e / unsigned_abs mu → pos n -ℤ pos 32767 ≡ tsdf mu eta
tsdf_is (pos m) eta e n least is en = ap (λ z. pos z -ℤ pos 32767) en ∙ by_lt_z eta (pos m) (λ near. near_is m e eta (omega (arith, ints)) near is) (λ far. far_is m e eta (omega (arith, ints)) far is)
tsdf_is (negsuc m) eta e n least is en = absurd (omega (arith, ints))

-- as the machine reads it
pub tsdf_read : (mu eta : ℤ) (e n : ℕ) (r : ℤ) → pos 1 ≤ℤ mu → mu ≤ℤ pos 1000000 → SFits w64 eta → pos e ≡ int_min (read eta) (read mu) +ℤ read mu → n ≡ 32767 * e / unsigned_abs (read mu) → n ≤ 65534 → r ≡ pos n -ℤ pos 32767 → read16 r ≡ tsdf mu eta
tsdf_read mu eta e n r least most fits raised quotient small er =
    let same : read16 r ≡ r = omega (arith, ints) in
    let one : read mu ≡ mu = omega (arith, ints) in
    let two : read eta ≡ eta = to_z-of_z w64 eta fits in
    same ∙ er ∙ tsdf_is mu eta e n least (raised ∙ rw (one, two) refl) (quotient ∙ rw one refl)
