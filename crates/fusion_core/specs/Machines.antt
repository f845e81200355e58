-- The state of a machine by its parts, and when a worker may take a step.
use Rattle.std.specs.Prelude.{◌≡◌, ℕ, ◌<◌, ◌≤◌, List, Option, None, Some, is_some, length, slice_get, true, ⊤}
use Rattle.block_heap.specs.declared.cell.Cell.{Cell}
use Rattle.fusion_core.specs.declared.board.dock.Dock.{Dock}
use Rattle.fusion_core.specs.declared.board.dock.Dock.TheVariants.{Bare, Full}
use Rattle.fusion_core.specs.declared.board.done.Done.{Done}
use Rattle.fusion_core.specs.declared.board.event.Event.TheVariants.{Draw, Finish}
use Rattle.fusion_core.specs.declared.board.hand.Hand.{Hand}
use Rattle.fusion_core.specs.declared.board.hand.Hand.TheVariants.{Works}
use Rattle.fusion_core.specs.declared.board.job.Job.{Job}
use Rattle.fusion_core.specs.declared.board.slot.Slot.{Slot}
use Rattle.fusion_core.specs.declared.board.slot.Slot.TheVariants.{OfCell, OfDock, Away}
use Rattle.fusion_core.specs.declared.board.work.Work.{Work}
use Rattle.fusion_core.specs.BoardStates.{BoardState, allowed}
use Rattle.fusion_core.specs.Boards.{IsPackedBlock, IsSuited}
use Rattle.fusion_core.specs.Counts.{count_of}
use Rattle.fusion_core.specs.Jobs.{Start, draws, first_at, slot_at, slots_held}
use Rattle.fusion_core.specs.Works.{greatest_weight}

-- a board of these jobs, cells, docks and free numbers, and of this work
abbrev pub start_of : List Job → List Cell → List Dock → List ℕ → Work → Start
start_of jobs cells docks free work = record { jobs = jobs; cells = cells; docks = docks; free = free; work = work }

-- the state of a board by its parts
abbrev pub state_of : Start → List Slot → (next cursor : ℕ) → List Hand → List (Option Done) → BoardState
state_of start slots next cursor hands ds = record { start = start; slots = slots; next = next; cursor = cursor; hands = hands; done = ds }

-- the worker w may draw a cell for its job j
pub record MayDraw (m : BoardState) (w j : ℕ) : Type 0 where
  pub may : allowed m (Draw w) ≡ true
  pub hand : slice_get m.hands w ≡ Some (Works j None)

-- the worker w may finish its job j, for which this cell was drawn
pub record MayFinish (m : BoardState) (w j : ℕ) (drawn : Option ℕ) : Type 0 where
  pub may : allowed m (Finish w) ≡ true
  pub hand : slice_get m.hands w ≡ Some (Works j drawn)

-- a full dock has the packed block of its key, with weights that the work takes
abbrev pub IsTaken : Work → Slot → Type 0
IsTaken w (OfCell c) = ⊤
IsTaken w (OfDock (Bare p)) = ⊤
IsTaken w (OfDock (Full key p)) = IsPackedBlock (greatest_weight w) key p
IsTaken w Away = ⊤

-- a job of a board of n cells can be done: its slots lie in the row as they were at the start, and suit it
pub record CanDo (st : Start) (work : Work) (n : ℕ) (slots : List Slot) (job : Job) (drawn : Option ℕ) : Type 0 where
  pub same_work : st.work ≡ work
  pub count : length st.cells ≡ n
  pub suited : IsSuited st job
  pub wants : draws job ≡ is_some drawn
  pub same : (k : ℕ) → 0 < count_of k (slots_held (length st.cells) job drawn) → (k < length slots) × (slot_at slots k ≡ first_at st k)
  pub once : (k : ℕ) → count_of k (slots_held (length st.cells) job drawn) ≤ 1
