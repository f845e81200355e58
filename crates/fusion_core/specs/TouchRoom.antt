-- A seat of the machine, which takes no memory when it touches.
use Rattle.std.specs.Prelude.{◌≡◌, ℕ, ◌≤◌, List, length, All}
use Rattle.spatial_hash.specs.Table.{Table, entries_in}
use Rattle.fusion_core.specs.TouchCounts.{firsts}
use Rattle.fusion_core.specs.TouchSeats.{SeatState, fresh_seat}

-- a seat, and how many touched keys it has room for
pub record SeatRoom : Type 0 where
  pub seat : SeatState
  pub room : ℕ

-- the seat has a part of 1, room for a key at each entry, and each touched key once
pub record IsRoomy (start : Table) (s : SeatRoom) : Type 0 where
  pub part : s.seat.part ≡ 1
  pub room : entries_in start ≤ s.room
  pub once : (x : ℕ) → firsts x s.seat.touched ≤ 1

-- n fresh seats over so many words, with room for so many keys
pub record AreFresh (n words entries : ℕ) (rs : List SeatRoom) : Type 0 where
  pub long : length rs ≡ n
  pub each : All (λ r. (r.seat ≡ fresh_seat words 1) × (entries ≤ r.room)) rs
