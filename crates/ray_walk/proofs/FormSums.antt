-- Machine numbers in a form.
use Rattle.std.proofs.Common.{◌≡◌, arith}
use Rattle.std.specs.Prelude.{ℤ, pos, ◌+ℤ◌, ◌-ℤ◌}
use Rattle.std.proofs.lemmas.Int.{ints}
use mir.Val.{SFits}
use mir.Syntax.{w64}
use Rattle.fixed_geom.specs.Vectors.{IsWithin}
use Rattle.fixed_geom.specs.Poses.{entry_bound}
use Rattle.fixed_geom.proofs.Machine.{read}

pub entry_read : (a : ℤ) → IsWithin entry_bound a → read a ≡ a
entry_read a v = omega (arith, ints)

-- the start of a form, and the product of its row and a point
pub sum_fits : (a d : ℤ) → IsWithin (pos 576460752303423488) a → IsWithin (pos 4611686018427387904) d → SFits w64 (read a +ℤ read d)
sum_fits a d v w = omega (arith, ints)

pub sum_read : (a d : ℤ) → IsWithin (pos 576460752303423488) a → IsWithin (pos 4611686018427387904) d → read (read a +ℤ read d) ≡ a +ℤ d
sum_read a d v w = omega (arith, ints)

-- the start of a form, by three numbers
pub start_read : (r x y : ℤ) → IsWithin (pos 271510767206809600) r → IsWithin (pos 36028797018963968) x → IsWithin (pos 36028797018963968) y → read (read (read r -ℤ read x) -ℤ read y) ≡ (r -ℤ x) -ℤ y
start_read r x y u v w = omega (arith, ints)

pub start_within : (r x y : ℤ) → IsWithin (pos 271510767206809600) r → IsWithin (pos 36028797018963968) x → IsWithin (pos 36028797018963968) y → IsWithin (pos 576460752303423488) ((r -ℤ x) -ℤ y)
start_within r x y u v w = record { low = omega (arith, ints); high = omega (arith, ints) }
