-- What a seat learns from each step that it makes.
use Rattle.std.specs.Prelude.{◌≡◌, ℕ, suc, ◌+◌, ◌-◌, ◌<◌, ◌≤◌, Option, None, Some, IsSome, List, [], ◌∷◌, ◌++◌, map, length, slice_index_or}
use Rattle.std.specs.Option.{option_or}
use Rattle.atomic_table.specs.Table.{Me, Step}
use Rattle.fusion_core.specs.declared.board.hand.Hand.{Hand}
use Rattle.fusion_core.specs.declared.board.hand.Hand.TheVariants.{Idle, Works}
use Rattle.fusion_core.specs.declared.board.slot.Slot.{Slot}
use Rattle.fusion_core.specs.declared.board.work.Work.TheVariants.{Look}
use Rattle.fusion_core.specs.Boards.{IsSuited}
use Rattle.fusion_core.specs.Counts.{count_of}
use Rattle.fusion_core.specs.Jobs.{Start, first_at, job_at, slots_held}
use Rattle.fusion_core.specs.Machines.{start_of}
use Rattle.work_board.specs.declared.view.View.{View}
use Rattle.work_board.specs.Rule.{first_view, view}

-- what a seat has: its view, and the slots that it took, each with its number
abbrev pub Held : Type 0
Held = Me Slot View

-- slots as they were when the board was made, each with its number
abbrev pub firsts : Start → List ℕ → List (ℕ × Slot)
firsts st ks = map (λ k. (k, first_at st k)) ks

-- the slots of the job j, for which this cell was drawn, as they were when the board was made
abbrev pub held : Start → (j : ℕ) → (drawn : Option ℕ) → List (ℕ × Slot)
held st j drawn = firsts st (slots_held (length st.cells) (job_at st j) drawn)

-- the job in a hand
abbrev pub job_in : Hand → ℕ
job_in Idle = 0
job_in (Works j drawn) = j

-- no job is in the list twice
abbrev pub NoneTwice : List ℕ → Type 0
NoneTwice did = (j : ℕ) → count_of j did ≤ 1

-- ---- views after a step

-- the job in hand is j, for which this cell was drawn
abbrev pub working : (j : ℕ) → (drawn : Option ℕ) → View → View
working j drawn v = view v.start v.part (Works j drawn) v.did v.mark v.ends

-- the claim number r past the jobs was drawn
abbrev pub past : (r : ℕ) → View → View
past r v = view v.start v.part Idle v.did (Some r) (suc v.ends)

-- the job j was done
abbrev pub finished : (j : ℕ) → View → View
finished j v = view v.start v.part Idle (v.did ++ j ∷ []) v.mark v.ends

-- ---- the steps

-- a fetch and add of the counter: the job of that number is in hand, with its cell and its dock, or there is none
abbrev pub claiming : Step Slot → Held → (r : ℕ) → Held → Type 0
claiming st m r n = (r < length m.0.start.jobs → (n ≡ (working r None m.0, held m.0.start r None)) × IsSuited m.0.start (job_at m.0.start r))
    × (length m.0.start.jobs ≤ r → n ≡ (past r m.0, []))
    × (IsSome m.0.mark → length m.0.start.jobs ≤ r)

-- a fetch and add of the cursor: the free cell of that place is in hand for the job
abbrev pub drawing : Step Slot → Held → (r : ℕ) → Held → Type 0
drawing st m r n = let c : ℕ = slice_index_or m.0.start.free r 0 in let j : ℕ = job_in m.0.hand in
    (r < length m.0.start.free) × (n ≡ (working j (Some c) m.0, held m.0.start j (Some c)))

-- a store of the answer: the job in hand is done, and its slots are at home
abbrev pub finishing : Step Slot → Held → (r : ℕ) → Held → Type 0
finishing st m r n = (n ≡ (finished (job_in m.0.hand) m.0, [])) × NoneTwice n.0.did

-- a load of word 0, from which a seat learns the bound of its part, and that its list has no job twice
abbrev pub weighed : Step Slot → Held → (r : ℕ) → Held → Type 0
weighed st m r n = (n ≡ m) × (m.0.part ≤ 64) × NoneTwice m.0.did

-- ---- splits and joins

-- a seat that gave k of its part to a new one
abbrev pub cut_left : (k : ℕ) → View → View
cut_left k v = view v.start (v.part - k) v.hand v.did v.mark v.ends

-- the new seat
abbrev pub cut_right : (k : ℕ) → View → View
cut_right k v = view v.start k Idle [] v.mark 0

-- two seats as one
abbrev pub both : View → View → View
both v w = view v.start (v.part + w.part) Idle (v.did ++ w.did) (option_or v.mark w.mark) (v.ends + w.ends)

-- what is left of the one that was taken in
abbrev pub gone : View
gone = first_view (start_of [] [] [] [] (Look 0)) 0
