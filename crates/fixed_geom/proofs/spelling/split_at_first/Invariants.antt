use Rattle.std.proofs.Common.{◌≡◌, ℕ, ◌<◌, get_or, false}
use Rattle.fixed_geom.specs.Decimal.{is_mark}
use Rattle.fixed_geom.proofs.spelling.split_at_first.Given as goal

abbrev pub invariant-loop-i : goal.invariant-loop-i
invariant-loop-i l = (k : ℕ) → k < l.i → is_mark l.mark l.other (get_or l.text k 0) ≡ false
