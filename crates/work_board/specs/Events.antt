-- Each step on the table of a board is one step of the machine, or none.
use Rattle.std.specs.Prelude.{◌≡◌, ℕ, ◌+◌, ◌%◌, ◌^◌, ◌<◌, ◌≤◌, if◌then◌else◌, true, Option, None, Some, is_some, [], ◌∷◌, ◌++◌, length, replicate, slice_index_or, slice_set, sum_by}
use mathlib.Core.Option.{none, some}
use lib.ListN.{get_elem?}
use Rattle.atomic_table.specs.Table.{State, Act, Valid, carried_after, opening as table_opening, step, stepped}
use Rattle.fusion_core.specs.declared.board.event.Event.{Event}
use Rattle.fusion_core.specs.declared.board.event.Event.TheVariants.{Claim, Draw, Finish}
use Rattle.fusion_core.specs.declared.board.hand.Hand.TheVariants.{Idle}
use Rattle.fusion_core.specs.declared.board.slot.Slot.{Slot}
use Rattle.fusion_core.specs.Boards.{IsReady}
use Rattle.fusion_core.specs.BoardStates.{BoardState, after_event, allowed, away, opening}
use Rattle.fusion_core.specs.Counts.{count_of}
use Rattle.fusion_core.specs.Jobs.{Start, draws, job_at, left, said, slots_of}
use Rattle.work_board.specs.declared.view.View.{View}
use Rattle.work_board.specs.Hands.{Rests, Working}
use Rattle.work_board.specs.Rule.{Shows, FitsWord, code, first_view, shown}
use Rattle.work_board.specs.Steps.{Held, both, claiming, cut_left, cut_right, drawing, finishing, gone, held, weighed}

-- the state of the machine that a table shows
abbrev pub machine : (st : Start) (seats : ℕ) (s : State Slot View) → Shows st seats s → BoardState
machine st seats s o = shown st o.slots o.counter o.cursor o.done s.views

-- the machine made this step, which it allows
abbrev pub IsEvent : Event → (old new : BoardState) → Type 0
IsEvent event old new = (allowed old event ≡ true) × (new ≡ after_event old event)

-- no step: the machine is as it was
abbrev pub IsNone : (old new : BoardState) → Type 0
IsNone old new = new ≡ old

-- where word w becomes y in a step of seat i, which has m: the seat gets a view and slots, the rule holds again, the seat learns what it is said to learn, and the machine goes from the state that was shown to the one that is
pub record Goes (st : Start) (seats i w y : ℕ) (m : Held) (s : State Slot View) (o : Shows st seats s) (learns : Held → Type 0) (event : BoardState → BoardState → Type 0) : Type 0 where
  pub view : View
  pub act : Act Slot
  pub valid : Valid s.homes m.1 act
  pub rule : Shows st seats (stepped s w y i m.1 view act)
  pub told : learns (view, carried_after m.1 act)
  pub moved : event (machine st seats s o) (machine st seats (stepped s w y i m.1 view act) rule)

-- the word w of a table
abbrev pub word : State Slot View → (w : ℕ) → ℕ
word s w = slice_index_or s.words w 0

-- what a seat adds to the counter of claims
abbrev pub claim_of : Held → ℕ
claim_of m = if is_some m.0.mark then 0 else 1

-- a claim while a job is left, and no step past the end
abbrev pub ByClaim : (i : ℕ) → (old new : BoardState) → Type 0
ByClaim i old new = (old.next < length old.start.jobs → IsEvent (Claim i) old new) × (length old.start.jobs ≤ old.next → IsNone old new)

-- a fetch and add of the counter is Claim while a job is left, and no step past the end
abbrev pub ClaimIsStep : Type 0
ClaimIsStep = (st : Start) (seats slots i : ℕ) (s : State Slot View) (o : Shows st seats s) (m : Held) → get_elem? s.views i ≡ some m.0 → Rests st m
    → Goes st seats i 0 ((word s 0 + claim_of m) % 2 ^ 64) m s o (claiming (step slots 0 (claim_of m) 0 none) m (word s 0)) (ByClaim i)

-- a fetch and add of the cursor, for a job that draws a cell, is Draw
abbrev pub DrawIsStep : Type 0
DrawIsStep = (st : Start) (seats slots i j : ℕ) (s : State Slot View) (o : Shows st seats s) (m : Held) → get_elem? s.views i ≡ some m.0 → Working st m j None → m.1 ≡ held st j None → draws (job_at st j) ≡ true
    → Goes st seats i 1 ((word s 1 + 1) % 2 ^ 64) m s o (drawing (step slots 1 1 0 none) m (word s 1)) (IsEvent (Draw i))

-- a store of a job's answer, by the seat that did the job, is Finish
abbrev pub FinishIsStep : Type 0
FinishIsStep = (st : Start) (seats slots i j : ℕ) (drawn : Option ℕ) (s : State Slot View) (o : Shows st seats s) (m : Held) → get_elem? s.views i ≡ some m.0 → Working st m j drawn → m.1 ≡ left st (job_at st j) drawn
    → draws (job_at st j) ≡ is_some drawn → FitsWord (said st (job_at st j) drawn)
    → Goes st seats i (j + 2) (code (Some (said st (job_at st j) drawn))) m s o (finishing (step slots (j + 2) (code (Some (said st (job_at st j) drawn))) 0 none) m (code (Some (said st (job_at st j) drawn)))) (IsEvent (Finish i))

-- the load of word 0 from which a seat learns the bound of its part is no step
abbrev pub WeighIsNone : Type 0
WeighIsNone = (st : Start) (seats slots i : ℕ) (s : State Slot View) (o : Shows st seats s) (m : Held) → get_elem? s.views i ≡ some m.0 → Goes st seats i 0 (word s 0) m s o (weighed (step slots 0 0 0 none) m (word s 0)) IsNone

-- a table that is made of a ready board shows the machine as it opens with one worker
abbrev pub StartIsOpening : Type 0
StartIsOpening = (st : Start) (seats : ℕ) → IsReady st → 1 ≤ seats → seats ≤ 64
    → (o : Shows st seats (table_opening (replicate (length st.jobs + 2) 0) (slots_of st.cells st.docks) (first_view st seats))) × IsNone (opening st 1) (machine st seats (table_opening (replicate (length st.jobs + 2) 0) (slots_of st.cells st.docks) (first_view st seats)) o)

-- the table after seat i was cut in two, which writes no word
abbrev pub cut_table : State Slot View → (i : ℕ) → (left right : View) → State Slot View
cut_table s i left right = record { words = s.words; homes = s.homes; views = slice_set s.views i left ++ right ∷ [] }

-- the table after seat i took another one in, which writes no word
abbrev pub joined_table : State Slot View → (i : ℕ) → (both : View) → (other : ℕ) → (spent : View) → State Slot View
joined_table s i both other spent = record { words = s.words; homes = s.homes; views = slice_set (slice_set s.views i both) other spent }

-- the machine with one more worker, who has nothing in hand
abbrev pub with_worker : BoardState → BoardState
with_worker m = record { start = m.start; slots = m.slots; next = m.next; cursor = m.cursor; hands = m.hands ++ Idle ∷ []; done = m.done }

-- a split is no step: the rule holds again, and the machine has one more worker
abbrev pub SplitIsNone : Type 0
SplitIsNone = (st : Start) (seats i k : ℕ) (v : View) → 1 ≤ k → k < v.part → v.hand ≡ Idle → v.start ≡ st → (s : State Slot View) (o : Shows st seats s) → get_elem? s.views i ≡ some v
    → (p : Shows st seats (cut_table s i (cut_left k v) (cut_right k v))) × (machine st seats (cut_table s i (cut_left k v) (cut_right k v)) p ≡ with_worker (machine st seats s o))

-- a join is no step: the rule holds again, and the machine is as it was
abbrev pub JoinIsNone : Type 0
JoinIsNone = (st : Start) (seats i other : ℕ) (v w : View) → 0 < v.part → v.hand ≡ Idle → w.hand ≡ Idle → v.start ≡ st → (s : State Slot View) (o : Shows st seats s) → get_elem? s.views i ≡ some v → ¬ (other ≡ i) → get_elem? s.views other ≡ some w
    → (p : Shows st seats (joined_table s i (both v w) other gone)) × IsNone (machine st seats s o) (machine st seats (joined_table s i (both v w) other gone) p)

-- ---- what holds at each moment

-- no cell and no dock is in two hands
abbrev pub IsInOneHand : Type 0
IsInOneHand = (st : Start) (seats : ℕ) (s : State Slot View) (o : Shows st seats s) (k : ℕ) → away (machine st seats s o) k ≤ 1

-- no job stands in the lists of two seats, or twice in one
abbrev pub IsInOneList : Type 0
IsInOneList = (st : Start) (seats : ℕ) (s : State Slot View) (j : ℕ) → Shows st seats s → sum_by (λ v. count_of j v.did) s.views ≤ 1
