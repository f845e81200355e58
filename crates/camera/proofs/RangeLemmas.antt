-- The tests of the fields hold exactly where the fields are in their ranges.
use Rattle.std.proofs.Common.{◌≡◌, ℕ, ◌+◌, List, [], ◌∷◌, Bool, true, false, None, refl, arith, rules}
use Rattle.std.specs.Prelude.{ℤ, int_le, ◌≤ℤ◌}
use Rattle.std.proofs.lemmas.Int.{ints}
use Rattle.std.proofs.lemmas.Bool.{and_parts}
use Rattle.camera.specs.declared.camera.CameraFields.{CameraFields}
use Rattle.camera.specs.Cameras.{within, HasRanges}
use Rattle.camera.specs.Opening.{camera_tests, first_failing}

-- each of the tests holds
abbrev pub AllHold : List Bool → Type 0
AllHold [] = Unit {0}
AllHold (b ∷ tests) = (b ≡ true) × AllHold tests

-- where none fails, each holds
pub all_hold : (n : ℕ) (tests : List Bool) → first_failing n tests ≡ None → AllHold tests
all_hold n [] h = tt
all_hold n (true ∷ tests) h = (refl, all_hold (n + 1) tests h)
all_hold n (false ∷ tests) h = absurd cc

pub is_at_most : (a b : ℤ) → int_le a b ≡ true → a ≤ℤ b
is_at_most a b h = grind (arith, ints)

pub between : (low high z : ℤ) → within low high z ≡ true → (low ≤ℤ z) × (z ≤ℤ high)
between low high z h = let p = and_parts (int_le low z) (int_le z high) h in (is_at_most low z p.0, is_at_most z high p.1)

pub has_ranges : (k : CameraFields) → first_failing 2 (camera_tests k) ≡ None → HasRanges k
unfolding camera_tests
has_ranges k h = let t = all_hold 2 (camera_tests k) h in search (rules, between, t)

-- ---- from the ranges

pub at_most : (a b : ℤ) → a ≤ℤ b → int_le a b ≡ true
at_most a b h = grind (arith, ints)

pub is_between : (low high z : ℤ) → low ≤ℤ z → z ≤ℤ high → within low high z ≡ true
is_between low high z h i = rw (at_most low z h, at_most z high i) refl

none_fails : (n : ℕ) (tests : List Bool) → AllHold tests → first_failing n tests ≡ None
none_fails n [] h = refl
none_fails n (true ∷ tests) h = none_fails (n + 1) tests h.1
none_fails n (false ∷ tests) h = absurd cc

-- where the fields are in their ranges, no test fails
pub from_ranges : (k : CameraFields) → HasRanges k → first_failing 2 (camera_tests k) ≡ None
unfolding camera_tests
from_ranges k r = none_fails 2 (camera_tests k) (search (rules, is_between, r))
