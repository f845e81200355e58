-- The states of a board: what its workers have in hand, and what is done.
use Rattle.std.specs.Prelude.{◌≡◌, ℕ, ◌+◌, ◌≤◌, ◌==◌, ◌&&◌, nat_lt, Bool, true, false, not, if◌then◌else◌, Option, None, Some, is_some, IsSome, List, [], ◌∷◌, length, take, drop, replicate, slice_index_or, slice_get, slice_set, sum_by}
use Rattle.std.specs.List.{zip}
use Rattle.fusion_core.specs.declared.board.done.Done.{Done}
use Rattle.fusion_core.specs.declared.board.event.Event.{Event}
use Rattle.fusion_core.specs.declared.board.event.Event.TheVariants.{Claim, Draw, Finish}
use Rattle.fusion_core.specs.declared.board.hand.Hand.{Hand}
use Rattle.fusion_core.specs.declared.board.hand.Hand.TheVariants.{Idle, Works}
use Rattle.fusion_core.specs.declared.board.job.Job.{Job}
use Rattle.fusion_core.specs.declared.board.slot.Slot.{Slot}
use Rattle.fusion_core.specs.declared.board.slot.Slot.TheVariants.{OfCell, OfDock, Away}
use Rattle.fusion_core.specs.Boards.{IsReady, draw_count}
use Rattle.fusion_core.specs.Counts.{count_of}
use Rattle.fusion_core.specs.Jobs.{Start, draws, drawn_for, drawn_list, first_at, job_at, left, said, slot_at, slots_held, slots_of}

-- the state of a board
pub record BoardState : Type 0 where
  pub start : Start
  -- the cells and then the docks: what is at home is as it is, and what is in a hand as it was when the board was made
  pub slots : List Slot
  -- the number of the next job, and how many free cells were drawn
  pub next : ℕ
  pub cursor : ℕ
  -- what each worker has in hand, and what is known of each job by its number
  pub hands : List Hand
  pub done : List (Option Done)

-- ---- what is in a hand

-- how often a hand has the job j
abbrev pub works : (j : ℕ) → Hand → ℕ
works j Idle = 0
works j (Works i drawn) = if i == j then 1 else 0

-- how often the cell c was drawn for the job in a hand
abbrev pub has_drawn : (c : ℕ) → Hand → ℕ
has_drawn c Idle = 0
has_drawn c (Works i drawn) = count_of c (drawn_list drawn)

-- 1 where a hand has a job that is still to draw a cell
abbrev pub waits : Start → Hand → ℕ
waits st Idle = 0
waits st (Works j None) = if draws (job_at st j) then 1 else 0
waits st (Works j (Some c)) = 0

-- how often a hand has the slot k
abbrev pub holds : Start → (k : ℕ) → Hand → ℕ
holds st k Idle = 0
holds st k (Works j drawn) = count_of k (slots_held (length st.cells) (job_at st j) drawn)

-- how often the slot k is in a hand
abbrev pub away : BoardState → (k : ℕ) → ℕ
away m k = sum_by (holds m.start k) m.hands

-- ---- what is done

-- the answer of a job, nothing where it is not done or there is none
abbrev pub done_at : List (Option Done) → (j : ℕ) → Option Done
done_at ds j = slice_index_or ds j None

-- 1 where a job is done
abbrev pub is_done : Option Done → ℕ
is_done None = 0
is_done (Some d) = 1

-- how often the cell c was drawn for a job, by its answer
abbrev pub drawn_by : Job → Option Done → (c : ℕ) → ℕ
drawn_by job None c = 0
drawn_by job (Some d) c = count_of c (drawn_list (drawn_for job d))

-- how often the cell c was drawn for the jobs that are done
abbrev pub drawn_count : List Job → List (Option Done) → (c : ℕ) → ℕ
drawn_count jobs answers c = sum_by (λ p. drawn_by p.0 p.1 c) (zip jobs answers)

-- the slots of the job j, where it is done
abbrev pub touched_by : Start → (j : ℕ) → Option Done → List ℕ
touched_by st j None = []
touched_by st j (Some d) = slots_held (length st.cells) (job_at st j) (drawn_for (job_at st j) d)

-- each slot of a list lies in the row at its number
abbrev pub Lie : List Slot → List (ℕ × Slot) → Type 0
Lie slots [] = Unit {0}
Lie slots (p ∷ ps) = (slot_at slots p.0 ≡ p.1) × Lie slots ps

-- the job j is done with this answer, and its slots lie in the row as it left them
pub record IsResult (st : Start) (slots : List Slot) (j : ℕ) (d : Done) : Type 0 where
  pub drawn : draws (job_at st j) ≡ is_some (drawn_for (job_at st j) d)
  pub said : d ≡ said st (job_at st j) (drawn_for (job_at st j) d)
  pub lie : Lie slots (left st (job_at st j) (drawn_for (job_at st j) d))

-- ---- the steps

-- a row after each slot of a list was put at its number
abbrev pub put : List Slot → List (ℕ × Slot) → List Slot
put slots [] = slots
put slots (p ∷ ps) = put (slice_set slots p.0 p.1) ps

-- a worker is there and has nothing in hand
abbrev pub is_idle : Option Hand → Bool
is_idle None = false
is_idle (Some Idle) = true
is_idle (Some (Works j drawn)) = false

-- a worker may draw where its job draws a cell, and none was drawn
abbrev pub may_draw : Start → Option Hand → Bool
may_draw st None = false
may_draw st (Some Idle) = false
may_draw st (Some (Works j None)) = draws (job_at st j)
may_draw st (Some (Works j (Some c))) = false

-- a job has all where it draws a cell and one was drawn, and where it draws none
abbrev pub has_all : Start → (j : ℕ) → (drawn : Option ℕ) → Bool
has_all st j None = not (draws (job_at st j))
has_all st j (Some c) = draws (job_at st j)

-- a worker may finish where its job has all
abbrev pub may_finish : Start → Option Hand → Bool
may_finish st None = false
may_finish st (Some Idle) = false
may_finish st (Some (Works j drawn)) = has_all st j drawn

-- whether a step is allowed: the worker is there and has in hand what the step needs, and a claim finds a job
abbrev pub allowed : BoardState → Event → Bool
allowed m (Claim w) = is_idle (slice_get m.hands w) && nat_lt m.next (length m.start.jobs)
allowed m (Draw w) = may_draw m.start (slice_get m.hands w)
allowed m (Finish w) = may_finish m.start (slice_get m.hands w)

-- the worker w has the next job
abbrev pub claimed : BoardState → (w : ℕ) → BoardState
claimed m w = record { start = m.start; slots = m.slots; next = m.next + 1; cursor = m.cursor; hands = slice_set m.hands w (Works m.next None); done = m.done }

-- the worker w has the next free cell for its job j
abbrev pub drawn : BoardState → (w j : ℕ) → BoardState
drawn m w j = record { start = m.start; slots = m.slots; next = m.next; cursor = m.cursor + 1; hands = slice_set m.hands w (Works j (slice_get m.start.free m.cursor)); done = m.done }

-- the worker w did its job j, and all that it had is at home
abbrev pub finished : BoardState → (w j : ℕ) → (drawn : Option ℕ) → BoardState
finished m w j drawn = record {
  start = m.start;
  slots = put m.slots (left m.start (job_at m.start j) drawn);
  next = m.next;
  cursor = m.cursor;
  hands = slice_set m.hands w Idle;
  done = slice_set m.done j (Some (said m.start (job_at m.start j) drawn));
}

-- the state after a worker with this in hand draws
abbrev pub after_draw : BoardState → (w : ℕ) → Option Hand → BoardState
after_draw m w None = m
after_draw m w (Some Idle) = m
after_draw m w (Some (Works j got)) = drawn m w j

-- the state after a worker with this in hand finishes
abbrev pub after_finish : BoardState → (w : ℕ) → Option Hand → BoardState
after_finish m w None = m
after_finish m w (Some Idle) = m
after_finish m w (Some (Works j got)) = finished m w j got

-- the state after a step
abbrev pub after_event : BoardState → Event → BoardState
after_event m (Claim w) = claimed m w
after_event m (Draw w) = after_draw m w (slice_get m.hands w)
after_event m (Finish w) = after_finish m w (slice_get m.hands w)

-- the state of a board as it was made, with n workers
abbrev pub opening : Start → (n : ℕ) → BoardState
opening st n = record { start = st; slots = slots_of st.cells st.docks; next = 0; cursor = 0; hands = replicate n Idle; done = replicate (length st.jobs) None }

-- ---- what each step keeps

-- 1 where j is below n
abbrev pub below : (j n : ℕ) → ℕ
below j n = if nat_lt j n then 1 else 0

-- a cell, a dock or neither
abbrev pub kind : Slot → ℕ
kind (OfCell c) = 0
kind (OfDock d) = 1
kind Away = 2

-- a board is whole: each job, each cell and each dock is in one place
pub record IsWhole (m : BoardState) : Type 0 where
  pub ready : IsReady m.start
  pub slot_count : length m.slots ≡ length (slots_of m.start.cells m.start.docks)
  pub done_count : length m.done ≡ length m.start.jobs
  pub next_fits : m.next ≤ length m.start.jobs
  -- each job below the next one is in one hand or done, and no other job is
  pub once : (j : ℕ) → sum_by (works j) m.hands + is_done (done_at m.done j) ≡ below j m.next
  -- each free cell up to the cursor was drawn for one job, and no other cell was drawn
  pub drawn_once : (c : ℕ) → sum_by (has_drawn c) m.hands + drawn_count m.start.jobs m.done c ≡ count_of c (take m.cursor m.start.free)
  -- only a job that draws a cell has one
  pub wanted : (w j : ℕ) (drawn : Option ℕ) → slice_get m.hands w ≡ Some (Works j drawn) → IsSome drawn → draws (job_at m.start j) ≡ true
  -- the free cells that are left are enough for the jobs that are still to draw one
  pub room : m.cursor + sum_by (waits m.start) m.hands + draw_count (drop m.next m.start.jobs) ≤ length m.start.free
  -- the slots of a job that is done are as it left them, and each other slot is as it was
  pub result : (j : ℕ) (d : Done) → done_at m.done j ≡ Some d → IsResult m.start m.slots j d
  pub else_same : (k : ℕ) → ((j : ℕ) → count_of k (touched_by m.start j (done_at m.done j)) ≡ 0) → slot_at m.slots k ≡ first_at m.start k
  -- cells stay cells, and docks stay docks
  pub kinds : (k : ℕ) → kind (slot_at m.slots k) ≡ kind (first_at m.start k)
