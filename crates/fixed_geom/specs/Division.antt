-- Division of whole numbers by floor, and to the nearest.
use Rattle.std.specs.Prelude.{ℤ, pos, ◌+ℤ◌, ◌*ℤ◌, ◌≤ℤ◌, ◌<ℤ◌}
use Rattle.std.specs.Int.{int_div_euclid}

-- q is the greatest whole number with b q ≤ a
pub record IsFloor (a b q : ℤ) : Type 0 where
  pub below : (b *ℤ q) ≤ℤ a
  pub above : a <ℤ (b *ℤ q +ℤ b)

-- the floor of a / b, where b is above 0
abbrev pub floor_div : ℤ → ℤ → ℤ
floor_div = int_div_euclid

-- the whole number nearest to a / b, the greater one of two
abbrev pub round_div : ℤ → ℤ → ℤ
round_div a b = floor_div (pos 2 *ℤ a +ℤ b) (pos 2 *ℤ b)
