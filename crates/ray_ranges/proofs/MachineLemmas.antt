-- Machine numbers that do not wrap.
use Rattle.std.proofs.Common.{◌≡◌, ℕ, ◌*◌, ◌≤◌, refl, ap, sym, subst, ◌∙◌, arith, lit≤}
use Rattle.std.specs.Prelude.{ℤ, pos, negsuc, neg_ℤ, ◌+ℤ◌, ◌-ℤ◌, ◌*ℤ◌, ◌≤ℤ◌, ◌<ℤ◌, unsigned_abs}
use Rattle.std.specs.Int.{int_max, int_min}
use Rattle.std.proofs.lemmas.Int.{to_z-of_z, ints, clamps}
use mir.Val.{SFits, to_z, of_z}
use mir.Syntax.{w64}
use Rattle.fixed_geom.specs.Division.{floor_div}
use Rattle.fixed_geom.specs.declared.vector.Vec3.{Vec3}
use Rattle.fixed_geom.specs.Vectors.{IsWithin}
use Rattle.fixed_geom.specs.Poses.{entry_bound, translation_bound}
use Rattle.fixed_geom.proofs.Dots.{within_product}
use Rattle.fixed_geom.proofs.Floors.{floor_is, floor_above, floor_below}
use Rattle.fixed_geom.proofs.Whole.{mul_order, mul_turn, mul_neg}
use Rattle.ray_ranges.specs.declared.span.Span.{Span}
use Rattle.ray_ranges.specs.Boxes.{span, IsSpanWithin, middle_axis, pixel_by, depth_by_sign, middle_of, reach_of}
use Rattle.ray_ranges.proofs.CubeLemmas.{middle_is}

-- numbers within 9 times 10^18 fit 64 bits, and stay themselves
pub fits : (z : ℤ) → IsWithin (pos 9000000000000000000) z → SFits w64 z
fits (pos n) w = record { sfits = omega (arith, ints) }
fits (negsuc n) w = record { sfits = omega (arith, ints) }

pub same : (z : ℤ) → IsWithin (pos 9000000000000000000) z → to_z w64 (of_z w64 z) ≡ z
same z w = to_z-of_z w64 z (fits z w)

pub wider : (m n : ℕ) (z : ℤ) → IsWithin (pos m) z → m ≤ n → IsWithin (pos n) z
wider m n z w le = record { low = omega (arith, ints); high = omega (arith, ints) }

-- a bounded number is read as itself
pub read : (m : ℕ) (z : ℤ) → IsWithin (pos m) z → m ≤ 9000000000000000000 → to_z w64 (of_z w64 z) ≡ z
read m z w le = same z (wider m 9000000000000000000 z w le)

-- the product of two bounded numbers is bounded
pub product_in : (m n k : ℕ) (a b : ℤ) → IsWithin (pos m) a → IsWithin (pos n) b → m * n ≤ k → IsWithin (pos k) (a *ℤ b)
product_in m n k a b v w le = plain (a *ℤ b) (m * n) (within_product (pos m) (pos n) a b v w) le
  where
    plain : (x : ℤ) (j : ℕ) → IsWithin (pos j) x → j ≤ k → IsWithin (pos k) x
    plain x j i h = wider j k x i h

pub same_span : (a b x y : ℤ) → a ≡ x → b ≡ y → span a b ≡ span x y
same_span a b x y e f = rw (e, f) refl

-- ---- the sizes of a column's entries

pub size_is : (r a : ℤ) → IsWithin entry_bound a → r ≡ pos (unsigned_abs (to_z w64 (of_z w64 a))) → r ≡ pos (unsigned_abs a)
size_is r a w e = e ∙ ap (λ (z : ℤ). pos (unsigned_abs z)) (read 1073872896 a w (lit≤ tt))

pub size_within : (r a : ℤ) → IsWithin entry_bound a → r ≡ pos (unsigned_abs a) → IsWithin entry_bound r
size_within r a w e = record { low = omega (arith, ints); high = omega (arith, ints) }

pub sizes_sum : (p q r : ℤ) → IsWithin entry_bound p → IsWithin entry_bound q → IsWithin entry_bound r → to_z w64 (of_z w64 (to_z w64 (of_z w64 (to_z w64 (of_z w64 p) +ℤ to_z w64 (of_z w64 q))) +ℤ to_z w64 (of_z w64 r))) ≡ (p +ℤ q) +ℤ r
sizes_sum p q r u v w = omega (arith, ints)

pub sizes_within : (p q r : ℤ) → IsWithin entry_bound p → IsWithin entry_bound q → IsWithin entry_bound r → IsWithin (pos 4294967296) ((p +ℤ q) +ℤ r)
sizes_within p q r u v w = record { low = omega (arith, ints); high = omega (arith, ints) }

-- ---- the reach

pub at_less : (a b : ℤ) → IsWithin (pos 4611686018427387904) a → IsWithin (pos 4503599627370496) b → to_z w64 (of_z w64 (to_z w64 (of_z w64 a) -ℤ to_z w64 (of_z w64 b))) ≡ a -ℤ b
at_less a b v w = omega (arith, ints)

pub at_more : (a b : ℤ) → IsWithin (pos 4611686018427387904) a → IsWithin (pos 4503599627370496) b → to_z w64 (of_z w64 (to_z w64 (of_z w64 a) +ℤ to_z w64 (of_z w64 b))) ≡ a +ℤ b
at_more a b v w = omega (arith, ints)

pub less_fits : (a b : ℤ) → IsWithin (pos 4611686018427387904) a → IsWithin (pos 4503599627370496) b → SFits w64 (to_z w64 (of_z w64 a) -ℤ to_z w64 (of_z w64 b))
less_fits a b v w = omega (arith, ints)

pub more_fits : (a b : ℤ) → IsWithin (pos 4611686018427387904) a → IsWithin (pos 4503599627370496) b → SFits w64 (to_z w64 (of_z w64 a) +ℤ to_z w64 (of_z w64 b))
more_fits a b v w = omega (arith, ints)

pub less_within : (a b : ℤ) → IsWithin (pos 4611686018427387904) a → IsWithin (pos 4503599627370496) b → IsWithin (pos 5000000000000000000) (a -ℤ b)
less_within a b v w = record { low = omega (arith, ints); high = omega (arith, ints) }

pub more_within : (a b : ℤ) → IsWithin (pos 4611686018427387904) a → IsWithin (pos 4503599627370496) b → IsWithin (pos 5000000000000000000) (a +ℤ b)
more_within a b v w = record { low = omega (arith, ints); high = omega (arith, ints) }

pub end_less : (h d : ℤ) → IsWithin (pos 4294901760) h → IsWithin (pos 65536) d → to_z w64 (of_z w64 (to_z w64 (of_z w64 h) -ℤ to_z w64 (of_z w64 d))) ≡ h -ℤ d
end_less h d v w = omega (arith, ints)

pub end_more : (h d : ℤ) → IsWithin (pos 4294901760) h → IsWithin (pos 65536) d → to_z w64 (of_z w64 (to_z w64 (of_z w64 h) +ℤ to_z w64 (of_z w64 d))) ≡ h +ℤ d
end_more h d v w = omega (arith, ints)

pub end_less_fits : (h d : ℤ) → IsWithin (pos 4294901760) h → IsWithin (pos 65536) d → SFits w64 (to_z w64 (of_z w64 h) -ℤ to_z w64 (of_z w64 d))
end_less_fits h d v w = omega (arith, ints)

pub end_more_fits : (h d : ℤ) → IsWithin (pos 4294901760) h → IsWithin (pos 65536) d → SFits w64 (to_z w64 (of_z w64 h) +ℤ to_z w64 (of_z w64 d))
end_more_fits h d v w = omega (arith, ints)

pub ends_within : (a b d : ℤ) → IsWithin (pos 4294901760) a → IsWithin (pos 4294901760) b → IsWithin (pos 65536) d → IsSpanWithin (pos 4294967296) (span (a -ℤ d) (b +ℤ d))
ends_within a b d u v w = record { low = record { low = omega (arith, ints); high = omega (arith, ints) }; high = record { low = omega (arith, ints); high = omega (arith, ints) } }

-- ---- the middle

-- how many half voxels the middle is from where the voxels begin
pub cells_is : (l e : ℤ) → IsWithin (pos 262144) l → pos 1 ≤ℤ e → e ≤ℤ pos 8 → to_z w64 (of_z w64 (to_z w64 (of_z w64 (to_z w64 (of_z w64 (pos 2 *ℤ to_z w64 (of_z w64 l))) +ℤ to_z w64 (of_z w64 e))) -ℤ pos 1)) ≡ pos 2 *ℤ l +ℤ e -ℤ pos 1
cells_is l e w e1 e8 = omega (arith, ints)

cells_within : (l e : ℤ) → IsWithin (pos 262144) l → pos 1 ≤ℤ e → e ≤ℤ pos 8 → IsWithin (pos 600000) (pos 2 *ℤ l +ℤ e -ℤ pos 1)
cells_within l e w e1 e8 = record { low = omega (arith, ints); high = omega (arith, ints) }

pub size_in : (s : ℤ) → pos 1 ≤ℤ s → s ≤ℤ pos 100000 → IsWithin (pos 100000) s
size_in s h k = record { low = omega (arith, ints); high = omega (arith, ints) }

pub side_in : (e : ℤ) → pos 1 ≤ℤ e → e ≤ℤ pos 8 → IsWithin (pos 8) e
side_in e h k = record { low = omega (arith, ints); high = omega (arith, ints) }

pub cells_product : (s l e : ℤ) → pos 1 ≤ℤ s → s ≤ℤ pos 100000 → IsWithin (pos 262144) l → pos 1 ≤ℤ e → e ≤ℤ pos 8 → IsWithin (pos 60000000000) (s *ℤ (pos 2 *ℤ l +ℤ e -ℤ pos 1))
cells_product s l e s1 s5 w e1 e8 = product_in 100000 600000 60000000000 s (pos 2 *ℤ l +ℤ e -ℤ pos 1) (size_in s s1 s5) (cells_within l e w e1 e8) (lit≤ tt)

pub middle_less : (p t : ℤ) → IsWithin (pos 60000000000) p → IsWithin translation_bound t → to_z w64 (of_z w64 (to_z w64 (of_z w64 p) -ℤ to_z w64 (of_z w64 (pos 2 *ℤ to_z w64 (of_z w64 t))))) ≡ p -ℤ pos 2 *ℤ t
middle_less p t v w = omega (arith, ints)

pub middle_fits : (p t : ℤ) → IsWithin (pos 60000000000) p → IsWithin translation_bound t → SFits w64 (to_z w64 (of_z w64 p) -ℤ to_z w64 (of_z w64 (pos 2 *ℤ to_z w64 (of_z w64 t))))
middle_fits p t v w = omega (arith, ints)

pub middle_within : (s l e t : ℤ) → pos 1 ≤ℤ s → s ≤ℤ pos 100000 → IsWithin (pos 154000000) (s *ℤ l) → pos 1 ≤ℤ e → e ≤ℤ pos 8 → IsWithin translation_bound t → IsWithin (pos 536870912) (middle_axis s l e t)
middle_within s l e t s1 s5 w e1 e8 far = plain (s *ℤ (pos 2 *ℤ l +ℤ e -ℤ pos 1)) (s *ℤ l) (s *ℤ e) s t (middle_is s l e) w (product_in 100000 8 800000 s e (size_in s s1 s5) (side_in e e1 e8) (lit≤ tt)) (size_in s s1 s5) far
  where
    plain : (m sl se s t : ℤ) → m ≡ (pos 2 *ℤ sl) +ℤ se -ℤ s → IsWithin (pos 154000000) sl → IsWithin (pos 800000) se → IsWithin (pos 100000) s → IsWithin translation_bound t → IsWithin (pos 536870912) (m -ℤ pos 2 *ℤ t)
    plain m sl se s t e u v w x = record { low = omega (arith, ints); high = omega (arith, ints) }

-- ---- depths and points

pub clip_low : (r a n : ℤ) → IsWithin (pos 4294967296) a → pos 1 ≤ℤ n → n ≤ℤ pos 16000000 → r ≡ int_max (to_z w64 (of_z w64 a)) (to_z w64 (of_z w64 n)) → IsWithin (pos 4294967296) (to_z w64 (of_z w64 r))
clip_low r a n w n1 n2 e = plain r a n w n1 n2 (e ∙ rw (read 4294967296 a w (lit≤ tt), read 16000000 n (record { low = omega (arith, ints); high = n2 }) (lit≤ tt)) refl)
  where
    plain : (r a n : ℤ) → IsWithin (pos 4294967296) a → pos 1 ≤ℤ n → n ≤ℤ pos 16000000 → r ≡ int_max a n → IsWithin (pos 4294967296) (to_z w64 (of_z w64 r))
    plain r a n w n1 n2 e = let i : IsWithin (pos 4294967296) r = record { low = omega (arith, ints, clamps); high = omega (arith, ints, clamps) } in subst (IsWithin (pos 4294967296)) (sym (read 4294967296 r i (lit≤ tt))) i

pub clip_high : (r b f : ℤ) → IsWithin (pos 4294967296) b → pos 1 ≤ℤ f → f ≤ℤ pos 16000000 → r ≡ int_min (to_z w64 (of_z w64 b)) (to_z w64 (of_z w64 f)) → IsWithin (pos 4294967296) (to_z w64 (of_z w64 r))
clip_high r b f w f1 f2 e = plain r b f w f1 f2 (e ∙ rw (read 4294967296 b w (lit≤ tt), read 16000000 f (record { low = omega (arith, ints); high = f2 }) (lit≤ tt)) refl)
  where
    plain : (r b f : ℤ) → IsWithin (pos 4294967296) b → pos 1 ≤ℤ f → f ≤ℤ pos 16000000 → r ≡ int_min b f → IsWithin (pos 4294967296) (to_z w64 (of_z w64 r))
    plain r b f w f1 f2 e = let i : IsWithin (pos 4294967296) r = record { low = omega (arith, ints, clamps); high = omega (arith, ints, clamps) } in subst (IsWithin (pos 4294967296)) (sym (read 4294967296 r i (lit≤ tt))) i

pub from_near : (z near : ℤ) → IsWithin (pos 4294967296) z → IsWithin (pos 16000000) near → to_z w64 (of_z w64 (to_z w64 (of_z w64 z) -ℤ to_z w64 (of_z w64 near))) ≡ z -ℤ near
from_near z near v w = omega (arith, ints)

pub up_from_near : (z near s : ℤ) → IsWithin (pos 4294967296) z → IsWithin (pos 16000000) near → pos 1 ≤ℤ s → s ≤ℤ pos 100000
    → to_z w64 (of_z w64 (to_z w64 (of_z w64 (to_z w64 (of_z w64 (to_z w64 (of_z w64 z) -ℤ to_z w64 (of_z w64 near))) +ℤ to_z w64 (of_z w64 s))) -ℤ pos 1)) ≡ z -ℤ near +ℤ s -ℤ pos 1
up_from_near z near s v w s1 s2 = omega (arith, ints)

-- ---- pixels

-- a quotient is no greater than what is divided
pub quotient_in : (n : ℕ) (a z : ℤ) → IsWithin (pos n) a → pos 1 ≤ℤ z → IsWithin (pos n) (floor_div a z)
quotient_in n a z w z1 =
    let q = floor_div a z in
    let is = floor_is a z z1 in
    let up : (pos n *ℤ pos 1) ≤ℤ (pos n *ℤ z) = mul_order (pos n) (pos 1) z (omega (arith, ints)) z1 in
    record {
      low = floor_above a z q (neg_ℤ (pos n)) z1 is (under a z (pos n) (pos n *ℤ pos 1) (pos n *ℤ z) (z *ℤ pos n) (z *ℤ neg_ℤ (pos n)) w.low up (omega (arith, ints)) (mul_turn (pos n) z) (mul_neg z (pos n)));
      high = floor_below a z q (pos n) z1 is (over a z (pos n) (pos n *ℤ pos 1) (pos n *ℤ z) (z *ℤ pos n) w.high z1 up (omega (arith, ints)) (mul_turn (pos n) z));
    }
  where
    under : (a z n one nz zn m : ℤ) → neg_ℤ n ≤ℤ a → one ≤ℤ nz → one ≡ n → nz ≡ zn → m ≡ neg_ℤ zn → m ≤ℤ a
    under a z n one nz zn m h i e f g = omega (arith, ints)

    over : (a z n one nz zn : ℤ) → a ≤ℤ n → pos 1 ≤ℤ z → one ≤ℤ nz → one ≡ n → nz ≡ zn → a <ℤ (zn +ℤ z)
    over a z n one nz zn h j i e f = omega (arith, ints)

pub quotient_more : (q c : ℤ) → IsWithin (pos 4611686020574871552) q → IsWithin (pos 134217728) c → to_z w64 (of_z w64 (to_z w64 (of_z w64 q) +ℤ to_z w64 (of_z w64 c))) ≡ q +ℤ c
quotient_more q c v w = omega (arith, ints)

-- a pixel, as the machine reads its numbers
pub pixel_read : (r c a z b d : ℤ) → r ≡ pixel_by (to_z w64 (of_z w64 c)) (to_z w64 (of_z w64 a)) (to_z w64 (of_z w64 z)) → to_z w64 (of_z w64 c) ≡ c → to_z w64 (of_z w64 a) ≡ b → to_z w64 (of_z w64 z) ≡ d → r ≡ pixel_by c b d
pixel_read r c a z b d e f g h = e ∙ rw (f, g, h) refl

-- and its depth
pub depth_read : (d x a b : ℤ) → IsWithin (pos 4294967296) d → d ≡ depth_by_sign (to_z w64 (of_z w64 x)) (to_z w64 (of_z w64 a)) (to_z w64 (of_z w64 b)) → to_z w64 (of_z w64 x) ≡ x → to_z w64 (of_z w64 a) ≡ a → to_z w64 (of_z w64 b) ≡ b → to_z w64 (of_z w64 d) ≡ depth_by_sign x a b
depth_read d x a b w e f g h = read 4294967296 d w (lit≤ tt) ∙ e ∙ rw (f, g, h) refl

pub deeper_front : (low high : ℤ) → IsWithin (pos 4294967296) high → pos 1 ≤ℤ low → low ≤ℤ high → pos 1 ≤ℤ to_z w64 (of_z w64 high)
deeper_front low high w front some = omega (arith, ints)

pub less_one : (t : ℤ) → IsWithin (pos 4611686019501129728) t → to_z w64 (of_z w64 (to_z w64 (of_z w64 t) -ℤ pos 1)) ≡ t -ℤ pos 1
less_one t w = omega (arith, ints)

pub less_one_fits : (t : ℤ) → IsWithin (pos 4611686019501129728) t → SFits w64 (to_z w64 (of_z w64 t) -ℤ pos 1)
less_one_fits t w = omega (arith, ints)

pub less_one_within : (t : ℤ) → IsWithin (pos 4611686019501129728) t → IsWithin (pos 4611686020574871552) (to_z w64 (of_z w64 (to_z w64 (of_z w64 t) -ℤ pos 1)))
less_one_within t w = record { low = omega (arith, ints); high = omega (arith, ints) }

pub plus_one : (x : ℤ) → IsWithin (pos 4294967296) x → to_z w64 (of_z w64 (to_z w64 (of_z w64 x) +ℤ pos 1)) ≡ x +ℤ pos 1
plus_one x w = omega (arith, ints)

pub width_fits : (w : ℤ) → IsWithin (pos 2048) w → SFits w64 (to_z w64 (of_z w64 w) -ℤ pos 1)
width_fits w i = omega (arith, ints)

pub width_less : (w : ℤ) → IsWithin (pos 2048) w → to_z w64 (of_z w64 (to_z w64 (of_z w64 w) -ℤ pos 1)) ≡ w -ℤ pos 1
width_less w i = omega (arith, ints)

pub first_point_read : (r z near s : ℤ) → r ≡ int_max (pos 1) (floor_div (to_z w64 (of_z w64 z) -ℤ to_z w64 (of_z w64 near) +ℤ to_z w64 (of_z w64 s) -ℤ pos 1) (to_z w64 (of_z w64 s)))
    → to_z w64 (of_z w64 z) ≡ z → to_z w64 (of_z w64 near) ≡ near → to_z w64 (of_z w64 s) ≡ s → r ≡ int_max (pos 1) (floor_div (z -ℤ near +ℤ s -ℤ pos 1) s)
first_point_read r z near s e f g h = e ∙ rw (f, g, h) refl

pub quotient_read : (r a s b : ℤ) → r ≡ floor_div a (to_z w64 (of_z w64 s)) → a ≡ b → to_z w64 (of_z w64 s) ≡ s → r ≡ floor_div b s
quotient_read r a s b e f g = e ∙ rw (f, g) refl

pub max_read : (m r a b : ℤ) → m ≡ int_max a (to_z w64 (of_z w64 r)) → to_z w64 (of_z w64 r) ≡ r → r ≡ b → m ≡ int_max a b
max_read m r a b e f g = e ∙ rw (f, g) refl

pub min_read : (m w r a b : ℤ) → m ≡ int_min w (to_z w64 (of_z w64 r)) → w ≡ a → to_z w64 (of_z w64 r) ≡ r → r ≡ b → m ≡ int_min a b
min_read m w r a b e f g h = e ∙ rw (f, g, h) refl

-- the product in a pixel, as the machine reads its numbers
pub first_product : (t f x : ℤ) → IsWithin (pos 4611686019501129728) t → t ≡ to_z w64 (of_z w64 f) *ℤ to_z w64 (of_z w64 x) → to_z w64 (of_z w64 f) ≡ f → to_z w64 (of_z w64 x) ≡ x → to_z w64 (of_z w64 t) ≡ f *ℤ x
first_product t f x w e g h = read 4611686019501129728 t w (lit≤ tt) ∙ e ∙ rw (g, h) refl

pub last_product : (t f x : ℤ) → IsWithin (pos 4611686019501129728) t → t ≡ to_z w64 (of_z w64 f) *ℤ to_z w64 (of_z w64 (to_z w64 (of_z w64 x) +ℤ pos 1)) → to_z w64 (of_z w64 f) ≡ f → IsWithin (pos 4294967296) x
    → to_z w64 (of_z w64 (to_z w64 (of_z w64 t) -ℤ pos 1)) ≡ f *ℤ (x +ℤ pos 1) -ℤ pos 1
last_product t f x w e g h = let is : t ≡ f *ℤ (x +ℤ pos 1) = e ∙ rw (plus_one x h, g) refl in less_one t w ∙ ap (λ (z : ℤ). z -ℤ pos 1) is

-- ---- the box

pub reach_read : (r : Span) (c c' m m' : Vec3) (n n' d : ℤ) → r ≡ reach_of c m (to_z w64 (of_z w64 n)) (to_z w64 (of_z w64 d)) → c ≡ c' → m ≡ m' → to_z w64 (of_z w64 n) ≡ n' → to_z w64 (of_z w64 d) ≡ d → r ≡ reach_of c' m' n' d
reach_read r c c' m m' n n' d e f g h i = e ∙ rw (f, g, h, i) refl

pub middle_read : (w l t : Vec3) (s e : ℤ) → w ≡ middle_of (to_z w64 (of_z w64 s)) l (to_z w64 (of_z w64 e)) t → to_z w64 (of_z w64 s) ≡ s → to_z w64 (of_z w64 e) ≡ e → w ≡ middle_of s l e t
middle_read w l t s e f g h = f ∙ rw (g, h) refl

pub side_read : (n s e : ℤ) → n ≡ to_z w64 (of_z w64 s) *ℤ to_z w64 (of_z w64 e) → IsWithin (pos 800000) n → to_z w64 (of_z w64 s) ≡ s → to_z w64 (of_z w64 e) ≡ e → to_z w64 (of_z w64 n) ≡ s *ℤ e
side_read n s e f w g h = read 800000 n w (lit≤ tt) ∙ f ∙ rw (g, h) refl
