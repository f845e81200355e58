-- A number with one digit set is a power of two.
use Rattle.std.proofs.Common.{◌≡◌, ◌≤◌, ◌+◌, ◌*◌, ◌/◌, ◌%◌, ◌^◌, ℕ, zero, suc, true, refl, sym, ap, ◌∙◌, arith, ◌⊎◌, inl, inr}
use Rattle.std.specs.Int.{IsPowerOfTwo, is_power_of_two}
use Rattle.std.specs.Int.RustNames.{count_ones}
use Rattle.std.proofs.lemmas.Bool.{eqb-true}
use Rattle.std.proofs.lemmas.Nat.{zero_from_ones, ones_le_self, div-add-mod'}
use lib.Count.{ones_step}

digit : (n : ℕ) → (n % 2 ≡ 0) ⊎ (n % 2 ≡ 1)
digit n = by (n % 2) (omega arith)
  where
    by : (d : ℕ) → d ≤ 1 → (d ≡ 0) ⊎ (d ≡ 1)
    by zero h = inl refl
    by (suc zero) h = inr refl
    by (suc (suc d)) h = absurd (omega arith)

twice : (n m k : ℕ) → n ≡ m * 2 → m ≡ 2 ^ k → n ≡ 2 ^ suc k
twice n m k e f = e ∙ ap (λ x. x * 2) f ∙ grind arith

power_by : (fuel n : ℕ) → n ≤ fuel → count_ones n ≡ 1 → IsPowerOfTwo n
power_by zero n h one = absurd (let l = ones_le_self n in omega (arith, one, l))
power_by (suc fuel) n h one =
    let l = ones_le_self n in
    let parts = div-add-mod' n 2 in
    let step : n % 2 + count_ones (n / 2) ≡ 1 = sym (ones_step n) ∙ one in
    elim (digit n) [
      | inl even ↦ (let r = power_by fuel (n / 2) (omega (arith, one, l, parts, even)) (omega (arith, step, even)) in (suc r.0, twice n (n / 2) r.0 (omega (arith, parts, even)) r.1))
      | inr odd ↦ (let none = zero_from_ones (n / 2) (omega (arith, step, odd)) in (0, omega (arith, parts, odd, none)))
    ]

pub is_power : (n : ℕ) → is_power_of_two n ≡ true → IsPowerOfTwo n
is_power n e = power_by n n (omega arith) (eqb-true (count_ones n) 1 e)
