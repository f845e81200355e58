-- Machine numbers that are read as they are.
use Rattle.std.proofs.Common.{◌≡◌, refl, arith}
use Rattle.std.specs.Prelude.{ℤ, pos, ◌+ℤ◌, ◌≤ℤ◌}
use Rattle.std.proofs.lemmas.Int.{ints}
use mir.Val.{SFits}
use mir.Syntax.{w64}
use Rattle.fixed_geom.specs.Vectors.{IsWithin}
use Rattle.camera.proofs.Readings.{read, fits64}

-- what is within 2^60 is read as it is
pub plain_read : (n z : ℤ) → n ≤ℤ pos 1152921504606846976 → IsWithin n z → read z ≡ z
plain_read n z h w = omega (arith, ints)

-- two sums in a row
pub sums_read : (k s t a b : ℤ) → IsWithin (pos 36028797018963968) k → IsWithin (pos 1125899906842624) s → IsWithin (pos 1125899906842624) t → s ≡ a → t ≡ b → read (read (read k +ℤ read s) +ℤ read t) ≡ k +ℤ a +ℤ b
sums_read k s t a b wk ws wt e f =
    let one : read k ≡ k = omega (arith, ints) in
    let two : read s ≡ s = omega (arith, ints) in
    let three : read t ≡ t = omega (arith, ints) in
    let four : read (k +ℤ s) ≡ k +ℤ s = omega (arith, ints) in
    let five : read (k +ℤ s +ℤ t) ≡ k +ℤ s +ℤ t = omega (arith, ints) in
    rw (one, two, three, four, five, e, f) refl

pub sums_fit : (k s t : ℤ) → IsWithin (pos 36028797018963968) k → IsWithin (pos 1125899906842624) s → IsWithin (pos 1125899906842624) t → SFits w64 (read (read k +ℤ read s) +ℤ read t)
sums_fit k s t wk ws wt =
    let one : read k ≡ k = omega (arith, ints) in
    let two : read s ≡ s = omega (arith, ints) in
    let three : read t ≡ t = omega (arith, ints) in
    let four : read (k +ℤ s) ≡ k +ℤ s = omega (arith, ints) in
    rw (one, two, three, four) (fits64 (k +ℤ s +ℤ t) (record { low = omega (arith, ints); high = omega (arith, ints) }))
