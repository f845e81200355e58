-- Machine numbers that do not wrap.
use Rattle.std.proofs.Common.{◌≡◌, ◌≤◌, ◌^◌, refl, arith, ◌∙◌}
use Rattle.std.specs.Prelude.{ℤ, pos, negsuc, ◌+ℤ◌, ◌-ℤ◌, ◌*ℤ◌, unsigned_abs}
use Rattle.std.proofs.lemmas.Int.{to_z-of_z, ints}
use mir.Val.{SFits, to_z, of_z}
use mir.Syntax.{w64, w128}
use Rattle.fixed_geom.specs.declared.vector.Vec3.{Vec3}
use Rattle.fixed_geom.specs.Division.{floor_div}
use Rattle.fixed_geom.specs.Vectors.{IsWithin, vec, dot, minus}
use Rattle.fixed_geom.specs.Poses.{entry_bound, translation_bound, unit, cam_axis, cam_q30_axis}
use Rattle.fixed_geom.proofs.Sizes.{product_within}

-- numbers within 2^62 stay themselves in 64 bits
pub fits64 : (z : ℤ) → IsWithin (pos 4611686018427387904) z → SFits w64 z
fits64 (pos n) w = record { sfits = omega (arith, ints) }
fits64 (negsuc n) w = record { sfits = omega (arith, ints) }

pub same64 : (z : ℤ) → IsWithin (pos 4611686018427387904) z → to_z w64 (of_z w64 z) ≡ z
same64 z w = to_z-of_z w64 z (fits64 z w)

-- numbers within 2^95 stay themselves in 128 bits
pub fits128 : (z : ℤ) → IsWithin (pos 39614081257132168796771975168) z → SFits w128 z
fits128 (pos n) w = record { sfits = omega (arith, ints) }
fits128 (negsuc n) w = record { sfits = omega (arith, ints) }

pub same128 : (z : ℤ) → IsWithin (pos 39614081257132168796771975168) z → to_z w128 (of_z w128 z) ≡ z
same128 z w = to_z-of_z w128 z (fits128 z w)

-- a sum of three products
pub sum_size : (a b c : ℤ) → unsigned_abs a ≤ 2 ^ 93 → unsigned_abs b ≤ 2 ^ 93 → unsigned_abs c ≤ 2 ^ 93 → IsWithin (pos 39614081257132168796771975168) (a +ℤ b +ℤ c)
sum_size a b c h i j = record { low = omega (arith, ints); high = omega (arith, ints) }

-- a number of 128 bits that is a bounded number fits 64 bits, and stays itself
pub narrow_fits : (r q : ℤ) → r ≡ q → IsWithin (pos 4398046511104) q → SFits w64 (to_z w128 (of_z w128 r))
narrow_fits r q e w =
    let is : to_z w128 (of_z w128 r) ≡ r = omega (arith, ints) in
    let small : IsWithin (pos 4611686018427387904) q = record { low = omega (arith, ints); high = omega (arith, ints) } in
    rw (is, e) (fits64 q small)

pub narrow_is : (r q : ℤ) → r ≡ q → IsWithin (pos 4398046511104) q → to_z w64 (of_z w64 (to_z w128 (of_z w128 r))) ≡ q
narrow_is r q e w =
    let one : to_z w128 (of_z w128 r) ≡ r = omega (arith, ints) in
    let two : to_z w64 (of_z w64 r) ≡ r = omega (arith, ints) in
    rw (one, two, e) refl

pub same_vec : (a b c x y z : ℤ) → a ≡ x → b ≡ y → c ≡ z → vec a b c ≡ vec x y z
same_vec a b c x y z e f g = rw (e, f, g) refl

-- the product of two entries stays itself in 64 bits
pub product_same : (a b : ℤ) → IsWithin entry_bound a → IsWithin entry_bound b → to_z w64 (of_z w64 (a *ℤ b)) ≡ a *ℤ b
product_same a b v w = let p = product_within a b v w in plain (a *ℤ b) p
  where
    plain : (x : ℤ) → IsWithin (pos 2305843009213693952) x → to_z w64 (of_z w64 x) ≡ x
    plain x p = same64 x (record { low = omega (arith, ints); high = omega (arith, ints) })

entry_same : (z : ℤ) → IsWithin entry_bound z → to_z w64 (of_z w64 z) ≡ z
entry_same z w = omega (arith, ints)

product_is : (p a b : ℤ) → IsWithin entry_bound a → IsWithin entry_bound b → p ≡ to_z w64 (of_z w64 a) *ℤ to_z w64 (of_z w64 b) → p ≡ a *ℤ b
product_is p a b v w e = e ∙ rw (entry_same a v, entry_same b w) refl

-- the difference of two products of entries, read as 64 bits
pub minor_is : (r p q a b c d : ℤ) → IsWithin entry_bound a → IsWithin entry_bound b → IsWithin entry_bound c → IsWithin entry_bound d
    → p ≡ to_z w64 (of_z w64 a) *ℤ to_z w64 (of_z w64 b) → q ≡ to_z w64 (of_z w64 c) *ℤ to_z w64 (of_z w64 d) → r ≡ to_z w64 (of_z w64 p) -ℤ to_z w64 (of_z w64 q)
    → to_z w64 (of_z w64 r) ≡ (a *ℤ b) -ℤ (c *ℤ d)
minor_is r p q a b c d ab bb cb db e f g = plain r p q (a *ℤ b) (c *ℤ d) (product_is p a b ab bb e) (product_is q c d cb db f) g (product_within a b ab bb) (product_within c d cb db)
  where
    plain : (r p q x y : ℤ) → p ≡ x → q ≡ y → r ≡ to_z w64 (of_z w64 p) -ℤ to_z w64 (of_z w64 q) → IsWithin (pos 2305843009213693952) x → IsWithin (pos 2305843009213693952) y → to_z w64 (of_z w64 r) ≡ x -ℤ y
    plain r p q x y e f g v w = omega (arith, ints)

-- the difference of a point and a translation, read as 64 bits
pub offset_is : (r p t : ℤ) → IsWithin (pos 1099511627776) p → IsWithin translation_bound t → r ≡ to_z w64 (of_z w64 p) -ℤ to_z w64 (of_z w64 t) → to_z w64 (of_z w64 r) ≡ p -ℤ t
offset_is r p t v w e = omega (arith, ints)

-- a number within 2^72 stays itself in 128 bits
pub cam_q30_axis_same : (z : ℤ) → IsWithin (pos 4722366482869645213696) z → to_z w128 (of_z w128 z) ≡ z
cam_q30_axis_same z w = omega (arith, ints)

-- the coordinate of a camera point, by the scaled one, read as 64 bits
pub cam_is : (r f : ℤ) (c t p : Vec3) → SFits w64 r → f ≡ cam_q30_axis c t p → IsWithin (pos 4722366482869645213696) (cam_q30_axis c t p) → r ≡ floor_div (to_z w128 (of_z w128 f)) unit → to_z w64 (of_z w64 r) ≡ cam_axis c t p
cam_is r f c t p fit e w is = to_z-of_z w64 r fit ∙ is ∙ rw (e, cam_q30_axis_same (cam_q30_axis c t p) w) refl

-- the coordinate of a world point, read as 64 bits
pub world_is : (r t w d : ℤ) → IsWithin translation_bound t → IsWithin (pos 4397946511104) w → w ≡ d → r ≡ to_z w64 (of_z w64 t) +ℤ to_z w64 (of_z w64 w) → to_z w64 (of_z w64 r) ≡ t +ℤ d
world_is r t w d u v e f = omega (arith, ints)

-- a scaled camera coordinate, by the entries of a column, read as 128 bits
pub cam_q30_axis_is : (r a b d : ℤ) (offset t p : Vec3) → IsWithin entry_bound a → IsWithin entry_bound b → IsWithin entry_bound d → offset ≡ minus p t
    → r ≡ dot (vec (to_z w64 (of_z w64 a)) (to_z w64 (of_z w64 b)) (to_z w64 (of_z w64 d))) offset → IsWithin (pos 4722366482869645213696) r
    → to_z w128 (of_z w128 r) ≡ cam_q30_axis (vec a b d) t p
cam_q30_axis_is r a b d offset t p u v w e f n = cam_q30_axis_same r n ∙ f ∙ rw (entry_same a u, entry_same b v, entry_same d w, e) refl
