-- What one seat knows and has.
use Rattle.std.specs.Prelude.{ℕ, List, [], replicate}

-- a seat
pub record SeatState : Type 0 where
  -- its part of the seats
  pub part : ℕ
  -- each word as it has seen it, 0 where it has not
  pub seen : List ℕ
  -- the words of the keys that it touched, each with its entry
  pub touched : List (ℕ × ℕ)
  -- the words of the keys that it placed
  pub placed : List ℕ
  -- its unlinked nodes, the last one first, each with the word that it stored there, 0 for none
  pub nodes : List (ℕ × ℕ)
  -- its mark: one more than the last number that it drew at or past the number of nodes, 0 for none
  pub mark : ℕ

-- a fresh seat, which has seen none of n words and has nothing
abbrev pub fresh_seat : ℕ → ℕ → SeatState
fresh_seat n part = record { part = part; seen = replicate n 0; touched = []; placed = []; nodes = []; mark = 0 }
