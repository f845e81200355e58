-- The points and the pixels that may have given camera coordinates.
use Rattle.std.proofs.Common.{◌≡◌, Bool, true, false, cond, ap, refl, ◌∙◌, arith}
use Rattle.std.specs.Prelude.{ℤ, pos, neg_ℤ, ◌+ℤ◌, ◌-ℤ◌, ◌*ℤ◌, ◌≤ℤ◌, ◌<ℤ◌, int_lt}
use Rattle.std.specs.Int.{int_max, int_min}
use Rattle.std.proofs.lemmas.Int.{ints, clamps, by_lt_z}
use Rattle.fixed_geom.specs.Division.{IsFloor, floor_div}
use Rattle.fixed_geom.proofs.Whole.{mul_sum, mul_neg, mul_turn, mul_order}
use Rattle.fixed_geom.proofs.Floors.{floor_is, floor_above, floor_below, cancel}
use Rattle.camera.specs.Cameras.{ray_axis}
use Rattle.ray_ranges.specs.declared.span.Span.{Span}
use Rattle.ray_ranges.specs.Boxes.{IsIn, points_of, pixel_by, first_pixel, last_pixel, pixels_of}

-- ---- points

pub in_points : (near s j : ℤ) (z : Span) → pos 1 ≤ℤ s → pos 1 ≤ℤ j → IsIn z (near +ℤ (s *ℤ j)) → IsIn (points_of near s z) j
in_points near s j z s1 j1 at =
    let a = z.low -ℤ near +ℤ s -ℤ pos 1 in
    let b = z.high -ℤ near in
    let low : floor_div a s ≤ℤ j = floor_below a s (floor_div a s) j s1 (floor_is a s s1) (before z.low near s (s *ℤ j) at.low) in
    let high : j ≤ℤ floor_div b s = floor_above b s (floor_div b s) j s1 (floor_is b s s1) (behind z.high near (s *ℤ j) at.high) in
    record { low = greater (floor_div a s) j j1 low; high = high }
  where
    before : (l near s sj : ℤ) → l ≤ℤ (near +ℤ sj) → (l -ℤ near +ℤ s -ℤ pos 1) <ℤ (sj +ℤ s)
    before l near s sj h = omega (arith, ints)

    behind : (h near sj : ℤ) → (near +ℤ sj) ≤ℤ h → sj ≤ℤ (h -ℤ near)
    behind h near sj le = omega (arith, ints)

    greater : (q j : ℤ) → pos 1 ≤ℤ j → q ≤ℤ j → int_max (pos 1) q ≤ℤ j
    greater q j h k = omega (arith, ints, clamps)

-- ---- one depth instead of another

-- a number of at least 0 that is at most a product with the depth z is at most the product with a greater depth
at_greater : (n a z b : ℤ) → pos 0 ≤ℤ n → n ≤ℤ (a *ℤ z) → pos 1 ≤ℤ z → z ≤ℤ b → n ≤ℤ (b *ℤ a)
at_greater n a z b n0 le z1 up = by_lt_z a (pos 0)
    (λ (l : a <ℤ pos 0). absurd (never n a z (z *ℤ a) (z *ℤ neg_ℤ (pos 1)) (a *ℤ z) n0 le z1 (mul_order z a (neg_ℤ (pos 1)) (omega (arith, ints)) (omega (arith, ints))) (less_one z) (mul_turn a z)))
    (λ (h : pos 0 ≤ℤ a). more n (a *ℤ z) (a *ℤ b) (b *ℤ a) le (mul_order a z b h up) (mul_turn a b))
  where
    less_one : (z : ℤ) → z *ℤ neg_ℤ (pos 1) ≡ neg_ℤ z
    less_one z = omega (arith, ints)

    never : (n a z za zm az : ℤ) → pos 0 ≤ℤ n → n ≤ℤ az → pos 1 ≤ℤ z → za ≤ℤ zm → zm ≡ neg_ℤ z → az ≡ za → ⊥
    never n a z za zm az h i j k e f = omega (arith, ints)

    more : (n az ab ba : ℤ) → n ≤ℤ az → az ≤ℤ ab → ab ≡ ba → n ≤ℤ ba
    more n az ab ba h i e = omega (arith, ints)

-- a number of at most 0 that is at most a product with the depth z is at most the product with a smaller depth
at_smaller : (n a z b : ℤ) → n ≤ℤ pos 0 → n ≤ℤ (a *ℤ z) → pos 1 ≤ℤ b → b ≤ℤ z → n ≤ℤ (b *ℤ a)
at_smaller n a z b n0 le b1 down = by_lt_z a (pos 0)
    (λ (l : a <ℤ pos 0). turned n (a *ℤ z) (b *ℤ a) (neg_ℤ a *ℤ b) (neg_ℤ a *ℤ z) le (mul_order (neg_ℤ a) b z (omega (arith, ints)) down) (negative a b ∙ ap neg_ℤ (mul_turn a b)) (negative a z))
    (λ (h : pos 0 ≤ℤ a). more n (b *ℤ pos 0) (b *ℤ a) n0 (omega (arith, ints)) (mul_order b (pos 0) a (omega (arith, ints)) h))
  where
    negative : (a b : ℤ) → neg_ℤ a *ℤ b ≡ neg_ℤ (a *ℤ b)
    negative a b = omega (arith, ints, mul_neg b a)

    turned : (n az ba nb nz : ℤ) → n ≤ℤ az → nb ≤ℤ nz → nb ≡ neg_ℤ ba → nz ≡ neg_ℤ az → n ≤ℤ ba
    turned n az ba nb nz h i e f = omega (arith, ints)

    more : (n none ba : ℤ) → n ≤ℤ pos 0 → none ≡ pos 0 → none ≤ℤ ba → n ≤ℤ ba
    more n none ba h e i = omega (arith, ints)

-- ---- pixels

-- the pixel by a quotient that is at most the pixel's own
pixel_low : (c u a n b : ℤ) → pos 1 ≤ℤ b → a ≡ pos 65536 *ℤ u -ℤ c → n ≤ℤ (b *ℤ a) → pixel_by c n b ≤ℤ u
pixel_low c u a n b b1 is le =
    let f = floor_is n b b1 in
    let q : floor_div n b ≤ℤ a = cancel b (floor_div n b) a b1 (past (b *ℤ floor_div n b) n (b *ℤ a) b b1 f.below le) in
    plain c u a (floor_div n b) (pixel_by c n b) is q (floor_is (floor_div n b +ℤ c) (pos 65536) (omega (arith, ints)))
  where
    past : (q n ba b : ℤ) → pos 1 ≤ℤ b → q ≤ℤ n → n ≤ℤ ba → q <ℤ (ba +ℤ b)
    past q n ba b h i k = omega (arith, ints)

    plain : (c u a q r : ℤ) → a ≡ pos 65536 *ℤ u -ℤ c → q ≤ℤ a → IsFloor (q +ℤ c) (pos 65536) r → r ≤ℤ u
    plain c u a q r e h i = omega (arith, ints, i.below, i.above)

-- and by one that is at least the pixel's own
pixel_high : (c u a n b : ℤ) → pos 1 ≤ℤ b → a ≡ pos 65536 *ℤ u -ℤ c → (b *ℤ a) ≤ℤ n → u ≤ℤ pixel_by c n b
pixel_high c u a n b b1 is le =
    let q : a ≤ℤ floor_div n b = floor_above n b (floor_div n b) a b1 (floor_is n b b1) le in
    plain c u a (floor_div n b) (pixel_by c n b) is q (floor_is (floor_div n b +ℤ c) (pos 65536) (omega (arith, ints)))
  where
    plain : (c u a q r : ℤ) → a ≡ pos 65536 *ℤ u -ℤ c → a ≤ℤ q → IsFloor (q +ℤ c) (pos 65536) r → u ≤ℤ r
    plain c u a q r e h i = omega (arith, ints, i.below, i.above)

-- a product with a factor of at least 1 has the sign of the other factor
product_sign : (f x : ℤ) → pos 1 ≤ℤ f → pos 0 ≤ℤ x → pos 0 ≤ℤ (f *ℤ x)
product_sign f x f1 h = plain (f *ℤ pos 0) (f *ℤ x) (omega (arith, ints)) (mul_order f (pos 0) x (omega (arith, ints)) h)
  where
    plain : (n y : ℤ) → n ≡ pos 0 → n ≤ℤ y → pos 0 ≤ℤ y
    plain n y e h = omega (arith, ints)

product_below : (f x : ℤ) → pos 1 ≤ℤ f → x ≤ℤ pos 0 → (f *ℤ x) ≤ℤ pos 0
product_below f x f1 h = plain (f *ℤ pos 0) (f *ℤ x) (omega (arith, ints)) (mul_order f x (pos 0) (omega (arith, ints)) h)
  where
    plain : (n y : ℤ) → n ≡ pos 0 → y ≤ℤ n → y ≤ℤ pos 0
    plain n y e h = omega (arith, ints)

-- what a test of an order tells
under : (a b : ℤ) → int_lt a b ≡ true → a <ℤ b
under a b h = grind (arith, ints)

pub not_under : (a b : ℤ) → int_lt a b ≡ false → b ≤ℤ a
not_under a b h = grind (arith, ints)

-- the first pixel
pub first_is : (f c u x z : ℤ) (s : Span) → pos 1 ≤ℤ f → pos 1 ≤ℤ s.low → IsIn s z → x ≤ℤ ray_axis f c u z → first_pixel f c x s ≤ℤ u
first_is f c u x z s f1 s1 at le = by (int_lt x (pos 0)) refl
  where
    a : ℤ
    a = pos 65536 *ℤ u -ℤ c

    within : (f *ℤ x) ≤ℤ (a *ℤ z)
    within = joined (f *ℤ x) (f *ℤ ray_axis f c u z) (a *ℤ z) (mul_order f x (ray_axis f c u z) (omega (arith, ints)) le) (floor_is (a *ℤ z) f f1).below
      where
        joined : (p q r : ℤ) → p ≤ℤ q → q ≤ℤ r → p ≤ℤ r
        joined p q r h i = omega (arith, ints)

    by : (t : Bool) → int_lt x (pos 0) ≡ t → pixel_by c (f *ℤ x) (cond t s.low s.high) ≤ℤ u
    by false e = pixel_low c u a (f *ℤ x) s.high (omega (arith, ints, at.low, at.high)) refl (at_greater (f *ℤ x) a z s.high (product_sign f x f1 (not_under x (pos 0) e)) within (omega (arith, ints, at.low)) at.high)
    by true e = let l = under x (pos 0) e in pixel_low c u a (f *ℤ x) s.low s1 refl (at_smaller (f *ℤ x) a z s.low (product_below f x f1 (omega (arith, ints, l))) within s1 at.low)

-- the last pixel
pub last_is : (f c u x z : ℤ) (s : Span) → pos 1 ≤ℤ f → pos 1 ≤ℤ s.low → IsIn s z → ray_axis f c u z ≤ℤ x → u ≤ℤ last_pixel f c x s
last_is f c u x z s f1 s1 at le = by (int_lt x (pos 0)) refl
  where
    a : ℤ
    a = pos 65536 *ℤ u -ℤ c

    n : ℤ
    n = f *ℤ (x +ℤ pos 1) -ℤ pos 1

    next : ℤ
    next = ray_axis f c u z +ℤ pos 1

    negative : (a b : ℤ) → neg_ℤ a *ℤ b ≡ neg_ℤ (a *ℤ b)
    negative a b = omega (arith, ints, mul_neg b a)

    over : neg_ℤ n ≤ℤ (neg_ℤ a *ℤ z)
    over = joined (a *ℤ z) (f *ℤ ray_axis f c u z) f (f *ℤ next) (f *ℤ pos 1) (f *ℤ (x +ℤ pos 1)) (neg_ℤ a *ℤ z) (floor_is (a *ℤ z) f f1).above (mul_sum f (ray_axis f c u z) (pos 1)) (omega (arith, ints)) (mul_order f next (x +ℤ pos 1) (omega (arith, ints)) (omega (arith, ints, le))) (negative a z)
      where
        joined : (az fr f fn one fx na : ℤ) → az <ℤ (fr +ℤ f) → fn ≡ fr +ℤ one → one ≡ f → fn ≤ℤ fx → na ≡ neg_ℤ az → neg_ℤ (fx -ℤ pos 1) ≤ℤ na
        joined az fr f fn one fx na h e g i k = omega (arith, ints)

    back : (b : ℤ) → neg_ℤ n ≤ℤ (b *ℤ neg_ℤ a) → (b *ℤ a) ≤ℤ n
    back b h = plain n (b *ℤ a) (b *ℤ neg_ℤ a) h (mul_neg b a)
      where
        plain : (n y m : ℤ) → neg_ℤ n ≤ℤ m → m ≡ neg_ℤ y → y ≤ℤ n
        plain n y m h e = omega (arith, ints)

    by : (t : Bool) → int_lt x (pos 0) ≡ t → u ≤ℤ pixel_by c n (cond t s.high s.low)
    by false e =
        let x0 = not_under x (pos 0) e in
        let one : f *ℤ (x +ℤ pos 1) ≡ (f *ℤ x) +ℤ (f *ℤ pos 1) = mul_sum f x (pos 1) in
        pixel_high c u a n s.low s1 refl (back s.low (at_smaller (neg_ℤ n) (neg_ℤ a) z s.low (not_below f (f *ℤ x) (f *ℤ pos 1) (f *ℤ (x +ℤ pos 1)) one (omega (arith, ints)) f1 (product_sign f x f1 x0)) over s1 at.low))
      where
        not_below : (f fx one n : ℤ) → n ≡ fx +ℤ one → one ≡ f → pos 1 ≤ℤ f → pos 0 ≤ℤ fx → neg_ℤ (n -ℤ pos 1) ≤ℤ pos 0
        not_below f fx one n e g h i = omega (arith, ints)
    by true e =
        let l = under x (pos 0) e in
        let top : (f *ℤ (x +ℤ pos 1)) ≤ℤ pos 0 = product_below f (x +ℤ pos 1) f1 (omega (arith, ints, l)) in
        pixel_high c u a n s.high (omega (arith, ints, at.low, at.high)) refl (back s.high (at_greater (neg_ℤ n) (neg_ℤ a) z s.high (not_above (f *ℤ (x +ℤ pos 1)) top) over (omega (arith, ints, at.low)) at.high))
      where
        not_above : (n : ℤ) → n ≤ℤ pos 0 → pos 0 ≤ℤ neg_ℤ (n -ℤ pos 1)
        not_above n h = omega (arith, ints)

-- the pixels of an image
pub in_pixels : (f c w u z : ℤ) (x s : Span) → pos 1 ≤ℤ f → pos 0 ≤ℤ u → u <ℤ w → pos 1 ≤ℤ s.low → IsIn s z → IsIn x (ray_axis f c u z) → IsIn (pixels_of f c w x s) u
in_pixels f c w u z x s f1 u0 uw s1 at in_x = record {
  low = greater (first_pixel f c x.low s) u u0 (first_is f c u x.low z s f1 s1 at in_x.low);
  high = smaller (last_pixel f c x.high s) u w uw (last_is f c u x.high z s f1 s1 at in_x.high);
}
  where
    greater : (q u : ℤ) → pos 0 ≤ℤ u → q ≤ℤ u → int_max (pos 0) q ≤ℤ u
    greater q u h k = omega (arith, ints, clamps)

    smaller : (q u w : ℤ) → u <ℤ w → u ≤ℤ q → u ≤ℤ int_min (w -ℤ pos 1) q
    smaller q u w h k = omega (arith, ints, clamps)
