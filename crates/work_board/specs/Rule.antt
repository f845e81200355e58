-- The rule of a board's table: its words, its slots at home and the views of its seats show a state of the machine, which is whole.
use Rattle.std.specs.Prelude.{◌≡◌, ℕ, ◌+◌, ◌*◌, ◌<◌, ◌≤◌, ◌^◌, if◌then◌else◌, min, Option, None, Some, is_some, IfSome, List, [], ◌∷◌, map, length, sum_by}
use mathlib.Core.Option.{some}
use lib.ListN.{get_elem?}
use Rattle.atomic_table.specs.Table.{State}
use Rattle.fusion_core.specs.declared.board.done.Done.{Done}
use Rattle.fusion_core.specs.declared.board.done.Done.TheVariants as done
use Rattle.fusion_core.specs.declared.board.hand.Hand.{Hand}
use Rattle.fusion_core.specs.declared.board.hand.Hand.TheVariants.{Idle}
use Rattle.fusion_core.specs.declared.board.slot.Slot.{Slot}
use Rattle.fusion_core.specs.BoardStates.{BoardState, IsWhole, away, done_at, is_done}
use Rattle.fusion_core.specs.Counts.{count_of}
use Rattle.fusion_core.specs.Jobs.{Start, slot_at}
use Rattle.fusion_core.specs.Machines.{start_of, state_of}
use Rattle.work_board.specs.declared.rule.Told.{Told}
use Rattle.work_board.specs.declared.view.View.{View}

-- the board as it was made, which the table was given
abbrev pub start_in : Told → Start
start_in key = start_of key.jobs.value.items key.cells.value.items key.docks.value.items key.free.value.items key.work.value

-- a view by its parts
abbrev pub view : Start → (part : ℕ) → Hand → (did : List ℕ) → (mark : Option ℕ) → (ends : ℕ) → View
view start part hand did mark ends = record { start = start; part = part; hand = hand; did = did; mark = mark; ends = ends }

-- what the first seat knows
abbrev pub first_view : Start → (part : ℕ) → View
first_view start part = view start part Idle [] None 0

-- ---- the words

-- the word of a job: 0 until it is done, and then its answer
abbrev pub code : Option Done → ℕ
code None = 0
code (Some (done.Cell c)) = 4 * c + 1
code (Some (done.Freed c)) = 4 * c + 2
code (Some (done.Looked s)) = 4 * (65536 * s.known + s.least) + 3

-- the numbers of an answer fit into a word
abbrev pub FitsWord : Done → Type 0
FitsWord (done.Cell c) = c < 2 ^ 32
FitsWord (done.Freed c) = c < 2 ^ 32
FitsWord (done.Looked s) = (s.known < 65536) × (s.least < 65536)

-- ---- the rule

-- the state of the machine that a table shows: each seat is a worker, and the next job is that of the counter, or none
abbrev pub shown : Start → List Slot → (counter cursor : ℕ) → List (Option Done) → List View → BoardState
shown st slots counter cursor answers views = state_of st slots (min counter (length st.jobs)) cursor (map (λ v. v.hand) views) answers

-- how far a seat may take the counter past the jobs: by its part, where it has a mark
abbrev pub spent : View → ℕ
spent v = if is_some v.mark then v.part else 0

-- a claim number is past the jobs, and so is the counter
abbrev pub IsPast : Start → (counter drawn : ℕ) → Type 0
IsPast st counter drawn = (length st.jobs ≤ drawn) × (length st.jobs ≤ counter)

-- the table of a board shows a whole state
pub record Shows (st : Start) (seats : ℕ) (s : State Slot View) : Type 0 where
  pub slots : List Slot
  pub counter : ℕ
  pub cursor : ℕ
  pub done : List (Option Done)
  pub whole : IsWhole (shown st slots counter cursor done s.views)
  -- the words are the counter of claims, the cursor over the free numbers, and one for each job
  pub words : s.words ≡ counter ∷ cursor ∷ map code done
  pub fits : (j : ℕ) (d : Done) → done_at done j ≡ Some d → FitsWord d
  -- what is in no hand is at home
  pub homes : length s.homes ≡ length slots
  pub at_home : (k : ℕ) → k < length slots → away (shown st slots counter cursor done s.views) k ≡ 0 → get_elem? s.homes k ≡ some (some (slot_at slots k))
  -- the parts add up to the seats, and a seat without a part has nothing
  pub few : seats ≤ 64
  pub parts : sum_by (λ v. v.part) s.views ≡ seats
  pub idle : (i : ℕ) (v : View) → get_elem? s.views i ≡ some v → v.part ≡ 0 → (v.hand ≡ Idle) × (v.did ≡ [])
  -- the counter is past the jobs by at most the parts of the seats that have a mark, and every mark is past them
  pub counted : counter ≤ length st.jobs + sum_by spent s.views
  pub marked : (i : ℕ) (v : View) → get_elem? s.views i ≡ some v → IfSome v.mark (IsPast st counter)
  -- each job that is done is in the list of one seat, once, and no other job is
  pub did : (j : ℕ) → sum_by (λ v. count_of j v.did) s.views ≡ is_done (done_at done j)
