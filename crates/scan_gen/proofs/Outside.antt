-- Every frame stands outside the ball, so that a ray meets the ball's near side in front of the camera.
use Rattle.std.proofs.Common.{◌≡◌, ℕ, ◌*◌, ◌≤◌, refl, arith}
use Rattle.std.proofs.lemmas.Nat.{mul-le}
use Rattle.std.specs.Prelude.{ℤ, pos, negsuc, ◌+ℤ◌, ◌-ℤ◌, ◌*ℤ◌, ◌≤ℤ◌, unsigned_abs}
use Rattle.std.proofs.lemmas.Int.{ints}
use Rattle.std.proofs.Math.IntN.{pos-*ℤ-pos, negsuc-*ℤ-negsuc}
use Rattle.fixed_geom.specs.declared.vector.Vec3.{Vec3}
use Rattle.fixed_geom.specs.Vectors.{dot}
use Rattle.fixed_geom.proofs.Whole.{mul_order, mul_turn}
use Rattle.scan_gen.specs.declared.ball.Ball.{Ball}
use Rattle.scan_gen.specs.Scene.{IsInScene, square, root, discriminant_of}
use Rattle.scan_gen.proofs.Roots.{root_least}

-- a square is not negative
square_positive : (z : ℤ) → pos 0 ≤ℤ (z *ℤ z)
square_positive (pos n) = omega (arith, ints)
square_positive (negsuc n) = omega (arith, ints)

-- a square of at least 1310000 squared
far_square : (z : ℤ) → pos 1310000 ≤ℤ z → pos 1716100000000 ≤ℤ (z *ℤ z)
far_square z le = ended (z *ℤ z) (pos 1310000 *ℤ z) (z *ℤ pos 1310000) (mul_order (pos 1310000) (pos 1310000) z (omega (arith, ints)) le) (mul_order z (pos 1310000) z (omega (arith, ints, le)) le) (mul_turn (pos 1310000) z)
  where
    ended : (zz nz zn : ℤ) → pos 1716100000000 ≤ℤ nz → zn ≤ℤ zz → nz ≡ zn → pos 1716100000000 ≤ℤ zz
    ended zz nz zn a b e = omega (arith, ints)

small_square : (r : ℕ) → r ≤ 400000 → r * r ≤ 160000000000
small_square r le = mul-le r r 400000 400000 le le

-- the frame is farther from the ball's centre than the radius
pub outside : (b : Ball) (z : ℕ) (o : Vec3) → IsInScene b → z ≤ 190000 → o.z ≡ b.centre.z -ℤ pos z → pos 0 ≤ℤ (dot o o -ℤ square b.radius)
outside b z o s le is =
    let near : pos 1500000 ≤ℤ b.centre.z = s.near in
    let deep : pos 1310000 ≤ℤ o.z = omega (arith, ints) in
    ended (o.x *ℤ o.x) (o.y *ℤ o.y) (o.z *ℤ o.z) (b.radius * b.radius) (square_positive o.x) (square_positive o.y) (far_square o.z deep) (small_square b.radius s.radius)
  where
    ended : (x y z : ℤ) (r : ℕ) → pos 0 ≤ℤ x → pos 0 ≤ℤ y → pos 1716100000000 ≤ℤ z → r ≤ 160000000000 → pos 0 ≤ℤ ((x +ℤ y +ℤ z) -ℤ pos r)
    ended x y z r a b c d = omega (arith, ints)

abs_square : (z : ℤ) → z *ℤ z ≡ pos (unsigned_abs z * unsigned_abs z)
abs_square (pos n) = pos-*ℤ-pos n n
abs_square (negsuc n) = negsuc-*ℤ-negsuc n n

-- where the discriminant has a root, this is at most the product of ray and offset
pub root_before : (squared : ℕ) (along power : ℤ) → pos 0 ≤ℤ power → pos 0 ≤ℤ discriminant_of squared along power → root (unsigned_abs (discriminant_of squared along power)) ≤ unsigned_abs along
root_before squared along power out some =
    root_least (unsigned_abs (discriminant_of squared along power)) (unsigned_abs along)
    (less (discriminant_of squared along power) (along *ℤ along) (pos squared *ℤ power) (unsigned_abs along * unsigned_abs along) refl (abs_square along) (mul_order (pos squared) (pos 0) power (omega (arith, ints)) out) some)
  where
    less : (d aa p : ℤ) (q : ℕ) → d ≡ aa -ℤ p → aa ≡ pos q → (pos squared *ℤ pos 0) ≤ℤ p → pos 0 ≤ℤ d → unsigned_abs d ≤ q
    less d aa p q e f g h = omega (arith, ints)
