-- Machine numbers that do not wrap.
use Rattle.std.proofs.Common.{◌≡◌, refl, arith}
use Rattle.std.specs.Prelude.{ℤ, pos, negsuc, ◌*ℤ◌}
use Rattle.std.proofs.lemmas.Int.{to_z-of_z, ints}
use mir.Val.{SFits, to_z, of_z}
use mir.Syntax.{w64}
use Rattle.fixed_geom.specs.Vectors.{IsWithin, vec}
use Rattle.fixed_geom.proofs.Dots.{within_product}

-- numbers within 2^62 stay themselves in 64 bits
fits : (z : ℤ) → IsWithin (pos 4611686018427387904) z → SFits w64 z
fits (pos n) w = record { sfits = omega (arith, ints) }
fits (negsuc n) w = record { sfits = omega (arith, ints) }

pub same : (z : ℤ) → IsWithin (pos 4611686018427387904) z → to_z w64 (of_z w64 z) ≡ z
same z w = to_z-of_z w64 z (fits z w)

-- the product of coordinates of a ray and of an offset
pub product_within : (a b : ℤ) → IsWithin (pos 67108864) a → IsWithin (pos 4194304) b → IsWithin (pos 281474976710656) (a *ℤ b)
product_within a b v w = less (a *ℤ b) (within_product (pos 67108864) (pos 4194304) a b v w)
  where
    less : (x : ℤ) → IsWithin (pos 67108864 *ℤ pos 4194304) x → IsWithin (pos 281474976710656) x
    less x w = record { low = omega (arith, ints); high = omega (arith, ints) }

pub product_same : (a b : ℤ) → IsWithin (pos 67108864) a → IsWithin (pos 4194304) b → to_z w64 (of_z w64 (a *ℤ b)) ≡ a *ℤ b
product_same a b v w = plain (a *ℤ b) (product_within a b v w)
  where
    plain : (x : ℤ) → IsWithin (pos 281474976710656) x → to_z w64 (of_z w64 x) ≡ x
    plain x p = same x (record { low = omega (arith, ints); high = omega (arith, ints) })

pub same_vec : (a b c x y z : ℤ) → a ≡ x → b ≡ y → c ≡ z → vec a b c ≡ vec x y z
same_vec a b c x y z e f g = rw (e, f, g) refl
