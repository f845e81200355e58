-- A slope by a product.
use Rattle.std.proofs.Common.{◌≡◌, ◌∙◌, ℕ, List, [], ◌∷◌, ◌++◌, ◌<◌, length, get_or, refl, arith, ap, sym, subst, below_more, length-append}
use Rattle.std.proofs.lemmas.List.{get_or_append_left, get_or_default}
use Rattle.std.proofs.Math.Seq.{get_or-append_seam}
use Rattle.std.specs.Prelude.{ℤ, pos, neg_ℤ, ◌+ℤ◌, ◌-ℤ◌, ◌*ℤ◌, ◌≤ℤ◌, ◌<ℤ◌}
use Rattle.std.proofs.lemmas.Int.{ints, to_z-of_z}
use Rattle.fixed_geom.specs.Division.{IsFloor, floor_div}
use Rattle.fixed_geom.specs.Vectors.{IsWithin}
use Rattle.fixed_geom.proofs.Floors.{floor_above, floor_below}
use Rattle.fixed_geom.proofs.Whole.{mul_difference, mul_group, mul_order}
use mir.Val.{SFits}
use mir.Syntax.{w64}
use Rattle.fixed_geom.proofs.Machine.{fits64, read, read128}
use Rattle.camera.specs.Cameras.{ray_axis}
use Rattle.camera.specs.Slopes.{AreSlopes, IsSlope, IsUnit}
use Rattle.fixed_geom.proofs.SignedProducts.{floor_of_product}

-- m is one more than a floor: the product passes the dividend by 1 to the divisor
past_floor : (a b m bm : ℤ) → bm ≡ (b *ℤ m) -ℤ (b *ℤ pos 1) → bm ≤ℤ a → a <ℤ (bm +ℤ b) → (pos 0 ≤ℤ ((b *ℤ m) -ℤ a)) × (((b *ℤ m) -ℤ a) ≤ℤ b)
past_floor a b m bm e low high = (omega (arith, ints), omega (arith, ints))

-- floor(p z / f), by m = floor(2^64 p / f u) + 1
pub slope_is : (p f u m z : ℤ) → pos 1 ≤ℤ f → (f *ℤ u) ≤ℤ pos 274877906944 → IsFloor (p *ℤ pos 18446744073709551616) (f *ℤ u) (m -ℤ pos 1) → pos 0 ≤ℤ z → z <ℤ pos 33554432
    → floor_div ((z *ℤ u) *ℤ m) (pos 18446744073709551616) ≡ floor_div (p *ℤ z) f
slope_is p f u m z f1 small floor z0 near =
    let d : ℤ = ((f *ℤ u) *ℤ m) -ℤ (p *ℤ pos 18446744073709551616) in
    let past = past_floor (p *ℤ pos 18446744073709551616) (f *ℤ u) m ((f *ℤ u) *ℤ (m -ℤ pos 1)) (mul_difference (f *ℤ u) m (pos 1)) floor.below floor.above in
    let most : d ≤ℤ pos 274877906944 = chain d (f *ℤ u) (pos 274877906944) past.1 small in
    let is : f *ℤ (u *ℤ m) ≡ (p *ℤ pos 18446744073709551616) +ℤ d = sym (mul_group f u m) ∙ whole ((f *ℤ u) *ℤ m) (p *ℤ pos 18446744073709551616) in
    ap (λ t. floor_div t (pos 18446744073709551616)) (mul_group z u m)
    ∙ floor_of_product p z f (u *ℤ m) (pos 18446744073709551616) d f1 (omega (arith, ints)) is (none z d z0 past.0) (less z d (z *ℤ pos 274877906944) z0 near (mul_order z d (pos 274877906944) z0 most) refl)
  where
    chain : (a b c : ℤ) → a ≤ℤ b → b ≤ℤ c → a ≤ℤ c
    chain a b c h k = omega (arith, ints)

    whole : (x y : ℤ) → x ≡ y +ℤ (x -ℤ y)
    whole x y = omega (arith, ints)

    zero_of : (z : ℤ) → z *ℤ pos 0 ≡ pos 0
    zero_of z = omega (arith, ints)

    none : (z d : ℤ) → pos 0 ≤ℤ z → pos 0 ≤ℤ d → pos 0 ≤ℤ (z *ℤ d)
    none z d z0 d0 = subst (λ t. t ≤ℤ (z *ℤ d)) (zero_of z) (mul_order z (pos 0) d z0 d0)

    less : (z d top : ℤ) → pos 0 ≤ℤ z → z <ℤ pos 33554432 → (z *ℤ d) ≤ℤ top → top ≡ z *ℤ pos 274877906944 → (z *ℤ d) <ℤ pos 18446744073709551616
    less z d top z0 near le e = omega (arith, ints)

-- sizes
pub part_within : (p b q : ℤ) → IsWithin (pos 134217728) p → pos 137438953472 ≤ℤ b → IsFloor (p *ℤ pos 18446744073709551616) b q → IsWithin (pos 18014398509481984) q
part_within p b q w large floor =
    let b1 : pos 1 ≤ℤ b = omega (arith, ints) in
    record {
      low = floor_above (p *ℤ pos 18446744073709551616) b q (neg_ℤ (pos 18014398509481984)) b1 floor (omega (arith, ints, w.low));
      high = floor_below (p *ℤ pos 18446744073709551616) b q (pos 18014398509481984) b1 floor (omega (arith, ints, w.high));
    }

-- ---- the part, as the machine reads it

pub part_floor : (way by q x b : ℤ) → SFits w64 way → SFits w64 by → IsWithin (pos 134217728) way → pos 137438953472 ≤ℤ by → x ≡ read way *ℤ pos 18446744073709551616 → b ≡ read by → IsFloor (read128 x) (read128 b) q → IsFloor (way *ℤ pos 18446744073709551616) by q
part_floor way by q x b fw fb small large ex eb floor =
    let one : x ≡ way *ℤ pos 18446744073709551616 = ex ∙ rw (to_z-of_z w64 way fw) refl in
    let two : read128 x ≡ way *ℤ pos 18446744073709551616 = whole x way one small in
    let three : read128 b ≡ by = wide b by (eb ∙ to_z-of_z w64 by fb) fb in
    subst (λ t. IsFloor (way *ℤ pos 18446744073709551616) t q) three (subst (λ t. IsFloor t (read128 b) q) two floor)
  where
    whole : (x way : ℤ) → x ≡ way *ℤ pos 18446744073709551616 → IsWithin (pos 134217728) way → read128 x ≡ way *ℤ pos 18446744073709551616
    whole x way e w = omega (arith, ints)

    wide : (b by : ℤ) → b ≡ by → SFits w64 by → read128 b ≡ by
    wide b by e f = omega (arith, ints, f.sfits)

pub cast_fits : (q : ℤ) → IsWithin (pos 18014398509481984) q → SFits w64 (read128 q)
cast_fits q w =
    let one : read128 q ≡ q = omega (arith, ints) in
    rw one (fits64 q (record { low = omega (arith, ints); high = omega (arith, ints) }))

pub more_fits : (q : ℤ) → IsWithin (pos 18014398509481984) q → SFits w64 (read (read128 q) +ℤ pos 1)
more_fits q w =
    let one : read128 q ≡ q = omega (arith, ints) in
    let two : read q ≡ q = omega (arith, ints) in
    rw (one, two) (fits64 (q +ℤ pos 1) (record { low = omega (arith, ints); high = omega (arith, ints) }))

pub more_read : (q : ℤ) → IsWithin (pos 18014398509481984) q → read (read (read128 q) +ℤ pos 1) ≡ q +ℤ pos 1
more_read q w =
    let one : read128 q ≡ q = omega (arith, ints) in
    let two : read q ≡ q = omega (arith, ints) in
    let three : read (q +ℤ pos 1) ≡ q +ℤ pos 1 = omega (arith, ints) in
    rw (one, two) three

pub more_floor : (a b q : ℤ) → IsWithin (pos 18014398509481984) q → IsFloor a b q → IsFloor a b (read (read (read128 q) +ℤ pos 1) -ℤ pos 1)
more_floor a b q w floor = subst (IsFloor a b) (sym (plain q (read (read (read128 q) +ℤ pos 1)) (more_read q w))) floor
  where
    plain : (q r : ℤ) → r ≡ q +ℤ pos 1 → r -ℤ pos 1 ≡ q
    plain q r e = omega (arith, ints)

pub more_within : (q : ℤ) → IsWithin (pos 18014398509481984) q → IsWithin (pos 36028797018963968) (read (read (read128 q) +ℤ pos 1))
more_within q w = subst (IsWithin (pos 36028797018963968)) (sym (more_read q w)) (record { low = omega (arith, ints); high = omega (arith, ints) })

-- ---- a slope that is made

pub unit_read : (focal unit : ℤ) → pos 1 ≤ℤ unit → unit ≤ℤ pos 274877906944 → (read focal *ℤ unit) ≤ℤ pos 274877906944 → (read focal *ℤ read unit) ≤ℤ pos 274877906944
unit_read focal unit least high small =
    let one : read unit ≡ unit = omega (arith, ints) in
    rw one small

pub made_read : (a focal unit part : ℤ) → pos 1 ≤ℤ unit → unit ≤ℤ pos 274877906944 → (read focal *ℤ unit) ≤ℤ pos 274877906944 → pos 137438953472 ≤ℤ (read focal *ℤ unit) → IsWithin (pos 36028797018963968) part
    → IsFloor a (read (read focal *ℤ read unit)) (part -ℤ pos 1) → IsFloor a (read focal *ℤ read unit) (read part -ℤ pos 1)
made_read a focal unit part least high small large w floor =
    let one : read unit ≡ unit = omega (arith, ints) in
    let two : read part ≡ part = omega (arith, ints) in
    let three : read (read focal *ℤ read unit) ≡ read focal *ℤ read unit = rw one (plain (read focal *ℤ unit) small large) in
    subst (λ q. IsFloor a (read focal *ℤ read unit) (q -ℤ pos 1)) (sym two) (subst (λ b. IsFloor a b (part -ℤ pos 1)) three floor)
  where
    plain : (x : ℤ) → x ≤ℤ pos 274877906944 → pos 137438953472 ≤ℤ x → read x ≡ x
    plain x h k = omega (arith, ints)

-- ---- what it gives

pub at_read : (way focal unit part z n r : ℤ) → pos 1 ≤ℤ focal → pos 1 ≤ℤ unit → unit ≤ℤ pos 274877906944 → (focal *ℤ unit) ≤ℤ pos 274877906944 → IsWithin (pos 36028797018963968) part → IsFloor (way *ℤ pos 18446744073709551616) (focal *ℤ unit) (part -ℤ pos 1)
    → pos 0 ≤ℤ z → z <ℤ pos 33554432 → SFits w64 n → SFits w64 r → n ≡ read z *ℤ read unit → r ≡ floor_div (read n *ℤ read part) (pos 18446744073709551616) → read r ≡ floor_div (way *ℤ z) focal
at_read way focal unit part z n r f1 u1 high small w floor z0 near fn fr en er =
    let one : read z ≡ z = omega (arith, ints) in
    let two : read unit ≡ unit = omega (arith, ints) in
    let three : read part ≡ part = omega (arith, ints) in
    let four : n ≡ z *ℤ unit = en ∙ rw (one, two) refl in
    to_z-of_z w64 r fr ∙ er ∙ rw (to_z-of_z w64 n fn, three, four) (slope_is way focal unit part z f1 small floor z0 near)

-- ---- the slopes of an axis

-- one more slope
pub slopes_more : (c by : ℤ) (slopes : List ℤ) (u : ℕ) (offset x : ℤ) → length slopes ≡ u → AreSlopes c by slopes → offset ≡ pos 65536 *ℤ pos u -ℤ c → IsSlope offset by x → AreSlopes c by (slopes ++ x ∷ [])
slopes_more c by slopes u offset x count are is slope k less =
    below_more (λ i. IsSlope (pos 65536 *ℤ pos i -ℤ c) by (get_or (slopes ++ x ∷ []) i (pos 0))) (length slopes)
    (λ i low. subst (IsSlope (pos 65536 *ℤ pos i -ℤ c) by) (sym (get_or_append_left slopes (x ∷ []) (pos 0) i low)) (are i low))
    (subst (IsSlope (pos 65536 *ℤ pos (length slopes) -ℤ c) by) (sym (get_or-append_seam slopes x [] (pos 0)))
    (subst (λ o. IsSlope o by x) (is ∙ ap (λ i. pos 65536 *ℤ pos i -ℤ c) (sym count)) slope))
    k (omega (arith, length-append slopes (x ∷ []), less))

-- one coordinate of a ray's point, by the slope that was read
pub axis_is : (slopes : List ℤ) (f c unit s z r : ℤ) (u : ℕ) → IsUnit f unit → AreSlopes c (f *ℤ unit) slopes → u < length slopes → s ≡ get_or slopes u s → SFits w64 z → SFits w64 r
    → ((offset focal : ℤ) → IsUnit focal (read unit) → IsSlope offset (focal *ℤ read unit) (read s) → r ≡ floor_div (offset *ℤ read z) focal) → read r ≡ ray_axis f c (pos u) z
axis_is slopes f c unit s z r u is are low at fz fr gives =
    let offset : ℤ = pos 65536 *ℤ pos u -ℤ c in
    let slope : IsSlope offset (f *ℤ unit) s = subst (IsSlope offset (f *ℤ unit)) (get_or_default slopes u (pos 0) s low ∙ sym at) (are u low) in
    let one : read unit ≡ unit = omega (arith, ints, is.least, is.high) in
    let two : read s ≡ s = omega (arith, ints, slope.bound.low, slope.bound.high) in
    to_z-of_z w64 r fr ∙ gives offset f (rw one is) (rw (one, two) slope) ∙ ap (λ t. floor_div (offset *ℤ t) f) (to_z-of_z w64 z fz)

-- ---- slopes as they are made

pub unit_made : (f unit : ℤ) → pos 1 ≤ℤ f → f ≤ℤ pos 1073741824 → pos 1 ≤ℤ unit → unit ≤ℤ pos 274877906944 → (read f *ℤ unit) ≤ℤ pos 274877906944 → IsUnit f (read unit)
unit_made f unit f1 f2 u1 u2 small =
    let one : read f ≡ f = omega (arith, ints, f1, f2) in
    let two : read unit ≡ unit = omega (arith, ints, u1, u2) in
    rw two (record { focal_least = f1; least = u1; high = u2; product = subst (λ t. (t *ℤ unit) ≤ℤ pos 274877906944) one small })

pub slopes_made : (c f unit by : ℤ) (slopes : List ℤ) → pos 0 ≤ℤ c → c ≤ℤ pos 134217728 → pos 1 ≤ℤ f → f ≤ℤ pos 1073741824 → by ≡ read f *ℤ read unit → pos 137438953472 ≤ℤ by → by ≤ℤ pos 274877906944
    → AreSlopes (read c) (read by) slopes → AreSlopes c (f *ℤ read unit) slopes
slopes_made c f unit by slopes c0 c1 f1 f2 is large most are =
    let one : read c ≡ c = omega (arith, ints, c0, c1) in
    let two : read by ≡ by = omega (arith, ints, large, most) in
    let three : read f ≡ f = omega (arith, ints, f1, f2) in
    subst (λ t. AreSlopes t (f *ℤ read unit) slopes) one (subst (λ t. AreSlopes (read c) t slopes) (two ∙ is ∙ ap (λ t. t *ℤ read unit) three) are)

pub centre_high : (w c : ℤ) → w ≤ℤ pos 2048 → c ≤ℤ (pos 65536 *ℤ w) → pos 0 ≤ℤ c → read c ≤ℤ pos 134217728
centre_high w c h k z =
    let one : read c ≡ c = omega (arith, ints, h, k, z) in
    rw one (omega (arith, ints, h, k))
