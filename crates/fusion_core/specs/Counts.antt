-- Counts in lists of numbers.
use Rattle.std.specs.Prelude.{ℕ, ◌==◌, List, count_by}

-- how often a number stands in a list
abbrev pub count_of : ℕ → List ℕ → ℕ
count_of n numbers = count_by (λ m. m == n) numbers
