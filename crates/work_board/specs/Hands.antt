-- What a seat has in hand.
use Rattle.std.specs.Prelude.{◌≡◌, ℕ, ◌<◌, ◌≤◌, Bool, true, Option, None, IsSome, [], length}
use Rattle.fusion_core.specs.declared.board.hand.Hand.TheVariants.{Idle, Works}
use Rattle.fusion_core.specs.declared.board.job.Job.{Job}
use Rattle.fusion_core.specs.Boards.{IsReady, IsSuited}
use Rattle.fusion_core.specs.Jobs.{Start, job_at}
use Rattle.work_board.specs.declared.turn.Turn.{Turn}
use Rattle.work_board.specs.declared.turn.Turn.TheVariants.{Did, Empty}
use Rattle.work_board.specs.Steps.{Held, held, finished, past, NoneTwice}

-- a seat with nothing in hand
abbrev pub Rests : Start → Held → Type 0
Rests st me = (me.0.start ≡ st) × (me.0.hand ≡ Idle) × (me.1 ≡ []) × (0 < me.0.part)

-- a seat with a job in hand
abbrev pub Working : Start → Held → (j : ℕ) → (drawn : Option ℕ) → Type 0
Working st me j drawn = (me.0.start ≡ st) × (me.0.hand ≡ Works j drawn) × (0 < me.0.part)

-- a seat has just claimed this job, and has what it names
pub record HasClaimed (st : Start) (me : Held) (j : ℕ) (job : Job) : Type 0 where
  pub ready : IsReady st
  pub inside : j < length st.jobs
  pub is : job_at st j ≡ job
  pub suited : IsSuited st job
  pub works : Working st me j None
  pub carries : me.1 ≡ held st j None

-- the job is done, and the seat's list has it once
pub record HasDone (old : Held) (j : ℕ) (new : Held) : Type 0 where
  pub rests : new ≡ (finished j old.0, [])
  pub once : NoneTwice new.0.did

-- what a turn made of what a seat has: one job more is done, which a seat with a mark never does, or one claim number more was drawn past the jobs
abbrev pub HasTurned : Held → Held → Turn → Type 0
HasTurned m n (Did j) = (j < length m.0.start.jobs) × (n ≡ (finished j m.0, [])) × NoneTwice n.0.did × (IsSome m.0.mark → ⊥)
HasTurned m n (Empty drawn) = (length m.0.start.jobs ≤ drawn) × (n ≡ (past drawn m.0, []))

-- whether a seat has a mark after a turn
abbrev pub mark_after : Bool → Turn → Bool
mark_after marked (Did j) = marked
mark_after marked (Empty drawn) = true
