-- The touch machine: its state, and its steps.
use Rattle.std.specs.Prelude.{◌≡◌, ◌≢◌, ℕ, suc, ◌+◌, ◌*◌, ◌<◌, ◌≤◌, List, [], ◌∷◌, ◌++◌, length, replicate, slice_index, slice_set}
use mathlib.Core.Option.{some}
use lib.ListN.{get_elem?}
use Rattle.voxel_block.specs.Words.{word_of}
use Rattle.spatial_hash.specs.Table.{Table, entries_in}
use Rattle.fusion_core.specs.declared.touch.event.Touch.{Touch}
use Rattle.fusion_core.specs.declared.touch.event.Touch.TheVariants.{Seen, Place, Node, Fill, Link}
use Rattle.fusion_core.specs.TouchSeats.{SeatState, fresh_seat}
use Rattle.fusion_core.specs.TouchWords.{counter_at, drawn}
use Rattle.fusion_core.specs.TouchRule.{TouchRuleHolds}
use Rattle.fusion_core.specs.TouchSteps.{IsNext, seen_after, put, drawn_after, last_node, stored, hung, draw_of}

-- the table at the start, the words now, and the seats
pub record TouchState : Type 0 where
  pub start : Table
  pub words : List ℕ
  pub seats : List SeatState

-- n fresh seats over a table; the counter stands at the number of linked nodes
abbrev pub touch_start : Table → ℕ → TouchState
touch_start t n = record { start = t; words = t.words ++ t.linked ∷ []; seats = replicate n (fresh_seat (length t.words + 1) 1) }

-- the rule holds
abbrev pub RuleHolds : TouchState → Type 0
RuleHolds s = TouchRuleHolds s.start (length s.seats) s.words s.seats

-- a seat may make the step
abbrev pub MayStep : Table → List ℕ → SeatState → Touch → Type 0
MayStep t ws v (Seen w k) = IsNext t v.seen (word_of k) w
MayStep t ws v (Place e k) = IsNext t v.seen (word_of k) e × (e < entries_in t) × (slice_index ws e ≡ 0)
MayStep t ws v Node = v.nodes ≡ []
MayStep t ws v (Fill k) = v.nodes ≢ []
MayStep t ws v (Link w) = (0 < (last_node v.nodes).1) × IsNext t v.seen (last_node v.nodes).1 w × (entries_in t ≤ w) × (slice_index ws w ≡ 0)

-- the words after the step
abbrev pub words_after : Table → List ℕ → SeatState → Touch → List ℕ
words_after t ws v (Seen w k) = ws
words_after t ws v (Place e k) = slice_set ws e (word_of k)
words_after t ws v Node = slice_set ws (counter_at t) (drawn t ws + draw_of v)
words_after t ws v (Fill k) = slice_set ws (4 * t.buckets + (last_node v.nodes).0) (word_of k)
words_after t ws v (Link w) = slice_set ws w (suc (last_node v.nodes).0)

-- the seat after the step
abbrev pub seat_after : Table → List ℕ → SeatState → Touch → SeatState
seat_after t ws v (Seen w k) = seen_after t (word_of k) w (slice_index ws w) v
seat_after t ws v (Place e k) = put (word_of k) e v
seat_after t ws v Node = drawn_after t.nodes (drawn t ws) v
seat_after t ws v (Fill k) = stored (word_of k) v
seat_after t ws v (Link w) = hung (last_node v.nodes).1 w (last_node v.nodes).0 (4 * t.buckets + (last_node v.nodes).0) v

-- seat i is there and may make the step
abbrev pub IsAllowed : TouchState → ℕ → Touch → Type 0
IsAllowed s i touch = (v : SeatState) × (get_elem? s.seats i ≡ some v) × MayStep s.start s.words v touch

-- seat i has these unlinked nodes
abbrev pub HasNodes : TouchState → ℕ → List (ℕ × ℕ) → Type 0
HasNodes s i ns = (v : SeatState) × (get_elem? s.seats i ≡ some v) × (v.nodes ≡ ns)

-- word w is the next one on the walk of seat i, for the key with word k
abbrev pub IsNextFor : TouchState → ℕ → ℕ → ℕ → Type 0
IsNextFor s i k w = (v : SeatState) × (get_elem? s.seats i ≡ some v) × IsNext s.start v.seen k w

-- seat i made the step
abbrev pub Steps : TouchState → ℕ → Touch → TouchState → Type 0
Steps s i touch r = (v : SeatState) × (get_elem? s.seats i ≡ some v) × (r ≡ record s { words = words_after s.start s.words v touch; seats = slice_set s.seats i (seat_after s.start s.words v touch) })
