-- What contracts see of the machine's fields.
use Rattle.std.specs.Prelude.{ℕ, List, [], ◌∷◌, Option, Some, None, vec_capacity}
use Rattle.fusion_core.specs.declared.touch.seat.Unlinked.{Unlinked}
use Rattle.fusion_core.specs.declared.touch.seat.Seat.TheInside.{Inside as SeatInside}
use Rattle.fusion_core.specs.TouchRoom.{SeatRoom}

-- the unlinked nodes of a seat that has at most one
abbrev pub nodes_of : Option Unlinked → List (ℕ × ℕ)
nodes_of None = []
nodes_of (Some n) = (n.number, n.word) ∷ []

-- the seat with these fields
abbrev pub seat_view : SeatInside → SeatRoom
seat_view s = record { seat = record { part = 1; seen = s.seen.items; touched = s.touched.items; placed = s.placed.items; nodes = nodes_of s.node; mark = s.mark }; room = vec_capacity s.touched }
