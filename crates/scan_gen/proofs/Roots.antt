-- The greatest whole number whose square is at most a number.
use Rattle.std.proofs.Common.{◌≡◌, ℕ, zero, suc, ◌+◌, ◌*◌, ◌≤◌, ◌<◌, refl, arith}
use Rattle.std.specs.Prelude.{nat_le, true, false, Bool, if◌then◌else◌}
use Rattle.std.proofs.lemmas.Bool.Decides.{nat_tests}
use Rattle.std.proofs.lemmas.Nat.{mul-le}
use Rattle.scan_gen.specs.Scene.{greatest_root, root}

-- a square is less only where its root is
square_less : (a b : ℕ) → a * a < b * b → a < b
square_less a b less =
    let back : b ≤ a → b * b ≤ a * a = λ h. mul-le b b a a h h in
    grind (arith, back)

below : (n q k : ℕ) → n < (q + 1) * (q + 1) → suc k * suc k ≤ n → q ≤ suc k → suc k ≡ q
below n q k high small above =
    let less : suc k < q + 1 = square_less (suc k) (q + 1) (omega arith) in
    omega arith

above : (n q k : ℕ) → q * q ≤ n → n < suc k * suc k → q ≤ k
above n q k low great =
    let less : q < suc k = square_less q (suc k) (omega arith) in
    omega arith

step : (n q k : ℕ) (b : Bool) → nat_le (suc k * suc k) n ≡ b → q * q ≤ n → n < (q + 1) * (q + 1) → q ≤ suc k → (q ≤ k → greatest_root n k ≡ q) → (if b then suc k else greatest_root n k) ≡ q
step n q k true test low high most again = below n q k high (grind (arith, nat_tests)) most
step n q k false test low high most again = again (above n q k low (grind (arith, nat_tests)))

-- a number whose square is at most n is the root, where the square of the next number is greater
greatest_is : (n q k : ℕ) → q * q ≤ n → n < (q + 1) * (q + 1) → q ≤ k → greatest_root n k ≡ q
greatest_is n q zero low high most = omega arith
greatest_is n q (suc k) low high most = step n q k (nat_le (suc k * suc k) n) refl low high most (greatest_is n q k low high)

pub root_is : (n q : ℕ) → q * q ≤ n → n < (q + 1) * (q + 1) → root n ≡ q
unfolding root
root_is n q low high = greatest_is n q n low high (own q n low)
  where
    own : (q n : ℕ) → q * q ≤ n → q ≤ n
    own zero n h = omega arith
    own (suc q) n h = let more : suc q * 1 ≤ suc q * suc q = mul-le (suc q) 1 (suc q) (suc q) (omega arith) (omega arith) in omega arith

-- the root's square is at most the number
small_step : (n k : ℕ) (b : Bool) → nat_le (suc k * suc k) n ≡ b → greatest_root n k * greatest_root n k ≤ n → (if b then suc k else greatest_root n k) * (if b then suc k else greatest_root n k) ≤ n
small_step n k true test more = grind (arith, nat_tests)
small_step n k false test more = more

greatest_small : (n k : ℕ) → greatest_root n k * greatest_root n k ≤ n
greatest_small n zero = omega arith
greatest_small n (suc k) = small_step n k (nat_le (suc k * suc k) n) refl (greatest_small n k)

next_square : (q : ℕ) → q * q < suc q * suc q
next_square q = omega (arith, mul-le q q q (suc q) (omega arith) (omega arith))

-- the root of a number that is at most the square of q is at most q
pub root_least : (n q : ℕ) → n ≤ q * q → root n ≤ q
unfolding root
root_least n q le =
    let less : greatest_root n n < suc q = square_less (greatest_root n n) (suc q) (omega (arith, next_square q, greatest_small n n)) in
    omega arith
