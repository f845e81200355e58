-- Machine numbers that do not wrap.
use Rattle.std.proofs.Common.{◌≡◌, ℕ, ◌*◌, ◌≤◌, arith}
use Rattle.std.specs.Prelude.{ℤ, pos, ◌*ℤ◌}
use Rattle.std.proofs.lemmas.Int.{ints}
use mir.Val.{to_z, of_z}
use mir.Syntax.{w64}
use Rattle.fixed_geom.specs.Vectors.{IsWithin}
use Rattle.fixed_geom.proofs.Dots.{within_product}
use Rattle.fixed_geom.proofs.Wide.{same64}

-- a product of two bounded numbers stays itself in 64 bits
pub product_same : (m n : ℕ) (a b : ℤ) → IsWithin (pos m) a → IsWithin (pos n) b → m * n ≤ 4611686018427387904 → to_z w64 (of_z w64 (a *ℤ b)) ≡ a *ℤ b
product_same m n a b v w le = same64 (a *ℤ b) (plain (a *ℤ b) (m * n) (within_product (pos m) (pos n) a b v w) le)
  where
    plain : (x : ℤ) (k : ℕ) → IsWithin (pos k) x → k ≤ 4611686018427387904 → IsWithin (pos 4611686018427387904) x
    plain x k v le = record { low = omega (arith, ints); high = omega (arith, ints) }
