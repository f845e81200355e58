-- Machine numbers in the product of a row and a point.
use Rattle.std.proofs.Common.{◌≡◌, ◌∙◌, refl, arith}
use Rattle.std.specs.Prelude.{ℤ, pos, ◌+ℤ◌, ◌*ℤ◌, ◌≤ℤ◌}
use Rattle.std.proofs.lemmas.Int.{ints}
use mir.Val.{SFits}
use mir.Syntax.{w64}
use Rattle.fixed_geom.specs.declared.vector.Vec3.{Vec3}
use Rattle.fixed_geom.specs.Vectors.{IsWithin, AreWithin}
use Rattle.fixed_geom.specs.Poses.{entry_bound}
use Rattle.fixed_geom.proofs.Dots.{within_product}
use Rattle.fixed_geom.proofs.Machine.{plain_read, read}

-- a point within a closer bound
pub closer : (n : ℤ) (p : Vec3) → n ≤ℤ pos 536870912 → AreWithin n p → AreWithin (pos 536870912) p
closer n p h w = record { x = axis p.x w.x; y = axis p.y w.y; z = axis p.z w.z }
  where
    axis : (z : ℤ) → IsWithin n z → IsWithin (pos 536870912) z
    axis z w = record { low = omega (arith, ints); high = omega (arith, ints) }

-- the product of an entry and a coordinate, as they are read
pub product_is : (p a b : ℤ) → IsWithin entry_bound a → IsWithin (pos 536870912) b → p ≡ read a *ℤ read b → p ≡ a *ℤ b
product_is p a b v w e = e ∙ rw (plain_read entry_bound a (omega (arith, ints)) v, plain_read (pos 536870912) b (omega (arith, ints)) w) refl

-- it is within 2^60
pub entry_product : (a b : ℤ) → IsWithin entry_bound a → IsWithin (pos 536870912) b → IsWithin (pos 1152921504606846976) (a *ℤ b)
entry_product a b v w = less (a *ℤ b) (within_product entry_bound (pos 536870912) a b v w)
  where
    less : (x : ℤ) → IsWithin (entry_bound *ℤ pos 536870912) x → IsWithin (pos 1152921504606846976) x
    less x w = record { low = omega (arith, ints); high = omega (arith, ints) }

-- three numbers within 2^60 and their sum
pub two_fit : (p q : ℤ) → IsWithin (pos 1152921504606846976) p → IsWithin (pos 1152921504606846976) q → SFits w64 (read p +ℤ read q)
two_fit p q v w = omega (arith, ints)

pub three_fit : (p q r : ℤ) → IsWithin (pos 1152921504606846976) p → IsWithin (pos 1152921504606846976) q → IsWithin (pos 1152921504606846976) r → SFits w64 (read (read p +ℤ read q) +ℤ read r)
three_fit p q r u v w = omega (arith, ints)

pub three_sum : (p q r : ℤ) → IsWithin (pos 1152921504606846976) p → IsWithin (pos 1152921504606846976) q → IsWithin (pos 1152921504606846976) r → read (read (read p +ℤ read q) +ℤ read r) ≡ (p +ℤ q) +ℤ r
three_sum p q r u v w = omega (arith, ints)

pub three_within : (p q r : ℤ) → IsWithin (pos 1152921504606846976) p → IsWithin (pos 1152921504606846976) q → IsWithin (pos 1152921504606846976) r → IsWithin (pos 4611686018427387904) ((p +ℤ q) +ℤ r)
three_within p q r u v w = record { low = omega (arith, ints); high = omega (arith, ints) }
