use Rattle.std.proofs.Common.{◌≡◌, ℕ, ◌+◌, ◌/◌, ◌≤◌, ◌<◌, get_or, length}
use Rattle.band_walk.proofs.steps.Steps.make.Given as goal

-- the reciprocals of the numbers so far
abbrev pub invariant-loop-n : goal.invariant-loop-n
invariant-loop-n l = (length l.reciprocals ≡ 64) × ((n : ℕ) → n < l.n → 2 ≤ n → get_or l.reciprocals n 0 ≡ 18446744073709551615 / n + 1)
