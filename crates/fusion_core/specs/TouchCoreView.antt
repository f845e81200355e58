-- What contracts see of the machine's fields.
use Rattle.std.specs.Prelude.{◌≡◌, ℕ, List, map, All}
use Rattle.spatial_hash.specs.Table.{Table}
use Rattle.fusion_core.specs.declared.touch.machine.TouchCore.TheInside.{Inside}
use Rattle.fusion_core.specs.declared.touch.size.Size.{Size}
use Rattle.fusion_core.specs.TouchMachine.{TouchState, RuleHolds}
use Rattle.fusion_core.specs.TouchRoom.{SeatRoom, IsRoomy}

-- the state with these words and seats
abbrev pub state_of : Table → List ℕ → List SeatRoom → TouchState
state_of start ws rs = record { start = start; words = ws; seats = map (λ r. r.seat) rs }

-- the state with these fields
abbrev pub machine_view : Inside → TouchState
machine_view m = state_of m.start.value m.words.items m.seats.items

-- the size is that of the table, the rule holds, and each seat has room
pub record IsStateOf (start : Table) (size : Size) (ws : List ℕ) (rs : List SeatRoom) : Type 0 where
  pub buckets : size.buckets ≡ start.buckets
  pub nodes : size.nodes ≡ start.nodes
  pub rule : RuleHolds (state_of start ws rs)
  pub roomy : All (IsRoomy start) rs

-- what holds of the fields
abbrev pub IsMachine : Inside → Type 0
IsMachine m = IsStateOf m.start.value m.size m.words.items m.seats.items
