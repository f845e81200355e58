-- What is proved of every board, whichever events it takes.
use Rattle.std.specs.Prelude.{◌≡◌, ℕ, ◌+◌, ◌<◌, ◌≤◌, ◌&&◌, Bool, true, false, Option, is_some, IsSome, List, [], ◌∷◌, drop, length, count_by}
use Rattle.std.specs.List.{zip}
use Rattle.voxel_block.specs.declared.key.BlockKey.{BlockKey}
use Rattle.voxel_block.specs.Keys.{same_key}
use Rattle.block_heap.specs.declared.cell.Cell.TheVariants.{Free, Owned}
use Rattle.fusion_core.specs.declared.board.dock.Dock.TheVariants.{Bare, Full}
use Rattle.fusion_core.specs.declared.board.done.Done.{Done}
use Rattle.fusion_core.specs.declared.board.event.Event.{Event}
use Rattle.fusion_core.specs.declared.board.job.Job.{Job}
use Rattle.fusion_core.specs.declared.board.job.Job.TheVariants.{Fresh, Stay, Enter, Leave, Check}
use Rattle.fusion_core.specs.declared.board.slot.Slot.{Slot}
use Rattle.fusion_core.specs.declared.board.slot.Slot.TheVariants.{OfCell, OfDock, Away}
use Rattle.fusion_core.specs.BoardEnds.{End, Ends, IsFreed, IsGiven}
use Rattle.fusion_core.specs.BoardStates.{BoardState, after_event, allowed, away, done_at, opening, IsWhole}
use Rattle.fusion_core.specs.Boards.{IsReady}
use Rattle.fusion_core.specs.Counts.{count_of}
use Rattle.fusion_core.specs.Jobs.{Start, job_at, slot_at, slots_of}

-- ---- every list of events

-- these events lead from one state to another, and each is allowed when it comes
abbrev pub Runs : (old : BoardState) → List Event → (new : BoardState) → Type 0
Runs old [] new = new ≡ old
Runs old (event ∷ events) new = (allowed old event ≡ true) × Runs (after_event old event) events new

-- each event that is allowed keeps a board whole
abbrev pub EventKeepsWhole : Type 0
EventKeepsWhole = (m : BoardState) (event : Event) → IsWhole m → allowed m event ≡ true → IsWhole (after_event m event)

-- a ready board is whole at each moment
abbrev pub StaysWhole : Type 0
StaysWhole = (st : Start) (workers : ℕ) (events : List Event) (m : BoardState) → IsReady st → Runs (opening st workers) events m → IsWhole m

-- no cell and no dock of a whole board is in two hands
abbrev pub IsInOneHand : Type 0
IsInOneHand = (m : BoardState) (k : ℕ) → IsWhole m → away m k ≤ 1

-- a free cell that was not drawn yet is at home, and free
abbrev pub RestIsFree : Type 0
RestIsFree = (m : BoardState) (c : ℕ) → IsWhole m → 0 < count_of c (drop m.cursor m.start.free) → (away m c ≡ 0) × IsFreed (slot_at m.slots c)

-- ---- the end

-- all jobs are done
abbrev pub IsOver : BoardState → Type 0
IsOver m = (j : ℕ) → j < length m.start.jobs → IsSome (done_at m.done j)

-- a whole board with all jobs done gives something back, and what it gives back is its end
abbrev pub WholeEnds : Type 0
WholeEnds = (m : BoardState) → IsWhole m → IsOver m → ((e : End) × IsGiven m e) × ((e : End) → IsGiven m e → Ends m.start e)

-- ---- the keys

-- whether a slot has the block of a key
abbrev pub is_place_of : BlockKey → Slot → Bool
is_place_of key (OfCell (Free block)) = false
is_place_of key (OfCell (Owned k block)) = same_key k key
is_place_of key (OfDock (Bare p)) = false
is_place_of key (OfDock (Full k p)) = same_key k key
is_place_of key Away = false

-- how many slots have the block of a key
abbrev pub place_count : BlockKey → List Slot → ℕ
place_count key slots = count_by (is_place_of key) slots

-- whether a job makes a block of a key
abbrev pub is_fresh_of : BlockKey → Job → Bool
is_fresh_of key (Fresh k) = same_key k key
is_fresh_of key (Stay cell) = false
is_fresh_of key (Enter dock) = false
is_fresh_of key (Leave cell dock) = false
is_fresh_of key (Check cell) = false

-- how many jobs that make a block of a key are done
abbrev pub made_count : BlockKey → List Job → List (Option Done) → ℕ
made_count key jobs answers = count_by (λ p. is_fresh_of key p.0 && is_some p.1) (zip jobs answers)

-- the owned cells, the full docks and the jobs that make blocks have different keys
abbrev pub HasDistinctKeys : Start → Type 0
HasDistinctKeys st = (key : BlockKey) → place_count key (slots_of st.cells st.docks) + count_by (is_fresh_of key) st.jobs ≤ 1

-- at each moment the block of a key is in as many places as at the start, and in one more for each job done that made one
abbrev pub KeepsPlaces : Type 0
KeepsPlaces = (st : Start) (workers : ℕ) (events : List Event) (m : BoardState) (key : BlockKey) → IsReady st → Runs (opening st workers) events m
    → place_count key m.slots ≡ place_count key (slots_of st.cells st.docks) + made_count key st.jobs m.done

-- each key lies in one place
pub record LiesOnce (st : Start) (m : BoardState) : Type 0 where
  -- no key lies in two
  pub most : (key : BlockKey) → place_count key m.slots ≤ 1
  -- each key of an owned cell or a full dock of the start lies in one
  pub kept : (key : BlockKey) → 0 < place_count key (slots_of st.cells st.docks) → place_count key m.slots ≡ 1
  -- and so does the key of each job done that made a block
  pub made : (j : ℕ) (key : BlockKey) → j < length st.jobs → job_at st j ≡ Fresh key → IsSome (done_at m.done j) → place_count key m.slots ≡ 1

-- where the keys differ, each lies in one place at each moment
abbrev pub KeysLieOnce : Type 0
KeysLieOnce = (st : Start) (workers : ℕ) (events : List Event) (m : BoardState) → IsReady st → HasDistinctKeys st → Runs (opening st workers) events m → LiesOnce st m
