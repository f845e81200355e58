-- Machine numbers that do not wrap.
use Rattle.std.proofs.Common.{◌≡◌, arith}
use Rattle.std.specs.Prelude.{ℤ, pos, ◌+ℤ◌}
use Rattle.std.proofs.lemmas.Int.{ints}
use mir.Val.{SFits, to_z, of_z}
use mir.Syntax.{w64}
use Rattle.fixed_geom.specs.Vectors.{IsWithin}

-- the sum of a bounded number and one that leads to a bounded number
pub sum_fits : (a r q : ℤ) → r ≡ q → IsWithin (pos 151006226) a → IsWithin (pos 151006226) (a +ℤ q) → SFits w64 (to_z w64 (of_z w64 a) +ℤ to_z w64 (of_z w64 r))
sum_fits a r q e v w = omega (arith, ints)

pub sum_same : (a r q : ℤ) → r ≡ q → IsWithin (pos 151006226) a → IsWithin (pos 151006226) (a +ℤ q) → to_z w64 (of_z w64 (to_z w64 (of_z w64 a) +ℤ to_z w64 (of_z w64 r))) ≡ a +ℤ q
sum_same a r q e v w = omega (arith, ints)
