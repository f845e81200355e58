-- Bounds of products and of sums of three products.
use Rattle.std.proofs.Common.{◌≡◌, ℕ, ◌+◌, ◌*◌, ◌≤◌, sym, ap, ◌∙◌, arith}
use Rattle.std.specs.Prelude.{ℤ, pos, negsuc, ◌+ℤ◌, ◌-ℤ◌, ◌*ℤ◌, ◌≤ℤ◌}
use Rattle.std.proofs.lemmas.Int.{ints}
use Rattle.std.proofs.lemmas.Nat.{mul-le}
use Rattle.fixed_geom.specs.declared.vector.Vec3.{Vec3}
use Rattle.fixed_geom.specs.Vectors.{IsWithin, AreWithin, dot, minus}
use Rattle.fixed_geom.specs.Poses.{Pose, HasPoseRange, cam_q30_axis, unit, entry_bound, column_x, column_y, column_z}
use Rattle.fixed_geom.proofs.Whole.{mul_difference}
use borrow.Author.Differences.{up, down}

size : (n : ℕ) (z : ℤ) → IsWithin (pos n) z → up z + down z ≤ n
size n (pos k) w = omega (arith, ints)
size n (negsuc k) w = omega (arith, ints)

-- a product is within the product of the bounds
pub within_product : (m n x y : ℤ) → IsWithin m x → IsWithin n y → IsWithin (m *ℤ n) (x *ℤ y)
within_product (pos m) (pos n) x y v w =
    let p : (up x + down x) * (up y + down y) ≤ m * n = mul-le (up x + down x) (up y + down y) m n (size m x v) (size n y w) in
    record { low = omega (arith, ints); high = omega (arith, ints) }
within_product (negsuc m) n x y v w = absurd (omega (arith, ints))
within_product (pos m) (negsuc n) x y v w = absurd (omega (arith, ints))

sum_within : (k a b c : ℤ) → IsWithin k a → IsWithin k b → IsWithin k c → IsWithin (pos 3 *ℤ k) (a +ℤ b +ℤ c)
sum_within k a b c u v w = record { low = omega (arith, ints); high = omega (arith, ints) }

-- the sum of three products is within three times the product of the bounds
pub within_dot : (m n : ℤ) (a b : Vec3) → AreWithin m a → AreWithin n b → IsWithin (pos 3 *ℤ (m *ℤ n)) (dot a b)
within_dot m n a b v w = sum_within (m *ℤ n) (a.x *ℤ b.x) (a.y *ℤ b.y) (a.z *ℤ b.z) (within_product m n a.x b.x v.x w.x) (within_product m n a.y b.y v.y w.y) (within_product m n a.z b.z v.z w.z)

-- the offset of p from t less that of q from t
offsets : (p q t : ℤ) → (p -ℤ t) -ℤ (q -ℤ t) ≡ p -ℤ q
offsets p q t = omega (arith, ints)

one_axis : (c p q t : ℤ) → (c *ℤ (p -ℤ t)) -ℤ (c *ℤ (q -ℤ t)) ≡ c *ℤ (p -ℤ q)
one_axis c p q t = sym (mul_difference c (p -ℤ t) (q -ℤ t)) ∙ ap (λ (z : ℤ). c *ℤ z) (offsets p q t)

three_differences : (a b c a' b' c' x y z : ℤ) → a -ℤ a' ≡ x → b -ℤ b' ≡ y → c -ℤ c' ≡ z → (a +ℤ b +ℤ c) -ℤ (a' +ℤ b' +ℤ c') ≡ x +ℤ y +ℤ z
three_differences a b c a' b' c' x y z e f g = omega (arith, ints)

-- the scaled camera coordinates of two points differ by the column times their difference
pub cam_q30_axis_difference : (c t p q : Vec3) → cam_q30_axis c t p -ℤ cam_q30_axis c t q ≡ dot c (minus p q)
cam_q30_axis_difference c t p q =
    three_differences (c.x *ℤ (p.x -ℤ t.x)) (c.y *ℤ (p.y -ℤ t.y)) (c.z *ℤ (p.z -ℤ t.z)) (c.x *ℤ (q.x -ℤ t.x)) (c.y *ℤ (q.y -ℤ t.y)) (c.z *ℤ (q.z -ℤ t.z)) (c.x *ℤ (p.x -ℤ q.x)) (c.y *ℤ (p.y -ℤ q.y)) (c.z *ℤ (p.z -ℤ q.z))
    (one_axis c.x p.x q.x t.x) (one_axis c.y p.y q.y t.y) (one_axis c.z p.z q.z t.z)

pub unit_positive : pos 1 ≤ℤ unit
unit_positive = omega (arith, ints)

-- the bounds of the rows are those of the columns
pub columns_small : (m : Pose) → HasPoseRange m → AreWithin entry_bound (column_x m) × AreWithin entry_bound (column_y m) × AreWithin entry_bound (column_z m)
columns_small m r = (record { x = r.x.x; y = r.y.x; z = r.z.x }, record { x = r.x.y; y = r.y.y; z = r.z.y }, record { x = r.x.z; y = r.y.z; z = r.z.z })
