-- What is counted in the lists of seats.
use Rattle.std.specs.Prelude.{ℕ, Bool, ◌==◌, ◌&&◌, List, count_by}
use Rattle.std.specs.List.{list_any}

-- how often x stands in the list
abbrev pub times : ℕ → List ℕ → ℕ
times x l = count_by (λ y. y == x) l

-- how often the pair of x and y stands in the list
abbrev pub pairs_at : ℕ → ℕ → List (ℕ × ℕ) → ℕ
pairs_at x y l = count_by (λ p. p.0 == x && p.1 == y) l

-- how often x is the first of a pair of the list
abbrev pub firsts : ℕ → List (ℕ × ℕ) → ℕ
firsts x l = count_by (λ p. p.0 == x) l

-- whether k is the first of a pair of the list
abbrev pub has_first : ℕ → List (ℕ × ℕ) → Bool
has_first k l = list_any (λ p. p.0 == k) l
