-- The rule of a share: the rule of touching holds of the words and of its seats, whatever step comes next.
use Rattle.std.specs.Prelude.{◌≡◌, ℕ, ◌<◌, List, map}
use mathlib.Core.Option.{some}
use lib.ListN.{get_elem?}
use Rattle.atomic_table.specs.Table.{State}
use Rattle.spatial_hash.specs.Table.{Table}
use Rattle.hash_share.specs.declared.view.View.{View}
use Rattle.fusion_core.specs.TouchSeats.{SeatState}
use Rattle.fusion_core.specs.TouchRule.{TouchRuleHolds}

-- the seat with this view
abbrev pub seat_in : View → SeatState
seat_in v = record { part = v.part; seen = v.seen; touched = v.touched; placed = v.placed; nodes = v.nodes; mark = v.mark }

-- the view with another seat
abbrev pub with_seat : View → SeatState → View
with_seat v s = record v { part = s.part; seen = s.seen; touched = s.touched; placed = s.placed; nodes = s.nodes; mark = s.mark }

-- the rule of touching holds, and each seat with a part knows the shared table
pub record IsShared (start : Table) (seats : ℕ) (ws : List ℕ) (vs : List View) : Type 0 where
  pub rule : TouchRuleHolds start seats ws (map seat_in vs)
  pub begun : (i : ℕ) (v : View) → get_elem? vs i ≡ some v → 0 < v.part → v.start ≡ start

-- the rule of a table's state
abbrev pub Touches : Table → ℕ → State ℕ View → Type 0
Touches start seats s = IsShared start seats s.words s.views
