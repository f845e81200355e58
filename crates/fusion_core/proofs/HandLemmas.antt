-- What a worker of the machine finds in hand, and what its steps make of the state.
use Rattle.std.proofs.Common.{◌≡◌, ℕ, ◌+◌, ◌<◌, List, length, set, sym, refl, ap, arith, subst, ◌∙◌, true}
use Rattle.std.specs.Prelude.{Option, None, Some, is_some, slice_get}
use mathlib.Core.Logic.{dite}
use native.Mathlib.Decide.{dec_le}
use Rattle.fusion_core.specs.declared.board.done.Done.{Done}
use Rattle.fusion_core.specs.declared.board.event.Event.TheVariants.{Claim, Draw, Finish}
use Rattle.fusion_core.specs.declared.board.hand.Hand.TheVariants.{Idle, Works}
use Rattle.fusion_core.specs.declared.board.job.Job.{Job}
use Rattle.fusion_core.specs.declared.board.slot.Slot.{Slot}
use Rattle.fusion_core.specs.declared.board.work.Work.{Work}
use Rattle.fusion_core.specs.Jobs.{Start, draws, job_at, left, said, slots_held}
use Rattle.fusion_core.specs.BoardStates.{BoardState, after_draw, after_event, after_finish, allowed, done_at, is_idle, may_draw, may_finish, put, touched_by, IsWhole}
use Rattle.fusion_core.specs.Machines.{CanDo, MayDraw, MayFinish, state_of}
use Rattle.fusion_core.specs.Counts.{count_of}
use Rattle.fusion_core.proofs.StepLemmas.{all_of, draw_keeps, has_what, hand_claimed, hand_once, hand_apart, some_idle}

untouched : (m : BoardState) (w j k i : ℕ) (got : Option ℕ) (d : Option Done) → IsWhole m → slice_get m.hands w ≡ Some (Works j got) → done_at m.done i ≡ d
    → 0 < count_of k (slots_held (length m.start.cells) (job_at m.start j) got) → count_of k (touched_by m.start i d) ≡ 0
untouched m w j k i got None o at is more = refl
untouched m w j k i got (Some d) o at is more = dite (dec_le 1 (count_of k (touched_by m.start i (Some d))))
    (λ some-there. absurd (let z = hand_apart m w j i k got d o at is (omega arith) in omega arith)) (λ no. omega arith)

-- a worker that may claim has nothing in hand
pub claim_idle : (m : BoardState) (w : ℕ) → allowed m (Claim w) ≡ true → slice_get m.hands w ≡ Some Idle
claim_idle m w may = some_idle (slice_get m.hands w) (all_of (is_idle (slice_get m.hands w)) _ may).0

-- a free cell is left for a worker that may draw one
pub draw_fits : (m : BoardState) (w j : ℕ) → IsWhole m → MayDraw m w j → m.cursor < length m.start.free
draw_fits m w j o may = (draw_keeps m w j o may.hand (sym (ap (may_draw m.start) may.hand) ∙ may.may)).0

pub drawn_is : (m : BoardState) (w j c : ℕ) → MayDraw m w j → slice_get m.start.free m.cursor ≡ Some c
    → state_of m.start m.slots m.next (m.cursor + 1) (set m.hands w (Works j (Some c))) m.done ≡ after_event m (Draw w)
drawn_is m w j c may cell =
    (λ k. state_of m.start m.slots m.next (m.cursor + 1) (set m.hands w (Works j (sym cell k))) m.done) ∙ sym (ap (after_draw m w) may.hand)

finish_wants : (m : BoardState) (w j : ℕ) (got : Option ℕ) → MayFinish m w j got → draws (job_at m.start j) ≡ is_some got
finish_wants m w j got may = has_what m.start j got (sym (ap (may_finish m.start) may.hand) ∙ may.may)

-- a worker that may finish its job can do it
pub finish_can : (m : BoardState) (w j n : ℕ) (got : Option ℕ) (work : Work) → IsWhole m → MayFinish m w j got → work ≡ m.start.work → n ≡ length m.start.cells
    → CanDo m.start work n m.slots (job_at m.start j) got
finish_can m w j n got work o may work-is n-is = record {
  same_work = sym work-is;
  count = sym n-is;
  suited = o.ready.suited j (hand_claimed m w j got o may.hand).2;
  wants = finish_wants m w j got may;
  same = λ k more. ((hand_once m w j k got o may.hand).1 more, o.else_same k (λ i. untouched m w j k i got (done_at m.done i) o may.hand refl more));
  once = λ k. (hand_once m w j k got o may.hand).0;
}

pub finished_is : (m : BoardState) (w j : ℕ) (got : Option ℕ) (slots : List Slot) (d : Done) → MayFinish m w j got
    → slots ≡ put m.slots (left m.start (job_at m.start j) got) → d ≡ said m.start (job_at m.start j) got
    → state_of m.start slots m.next m.cursor (set m.hands w Idle) (set m.done j (Some d)) ≡ after_event m (Finish w)
finished_is m w j got slots d may slots-are said-is =
    (λ k. state_of m.start (slots-are k) m.next m.cursor (set m.hands w Idle) (set m.done j (Some (said-is k)))) ∙ sym (ap (after_finish m w) may.hand)

-- ---- a step of a machine whose state is seen as v

-- a worker that may claim there may claim here
pub claim_here : (m v : BoardState) → m ≡ v → (w : ℕ) → allowed v (Claim w) ≡ true → allowed m (Claim w) ≡ true
claim_here m v view w may = subst (λ (z : BoardState). allowed z (Claim w) ≡ true) (sym view) may

module _ (m v : BoardState) (view : m ≡ v) (w j : ℕ) (got : Option ℕ) (may : MayFinish v w j got) where
  pub finish_here : MayFinish m w j got
  finish_here = subst (λ (z : BoardState). MayFinish z w j got) (sym view) may

  module _ (n : ℕ) (work : Work) (job : Job) (o : IsWhole m) (work-is : work ≡ v.start.work) (count : n ≡ length m.start.cells) (job-is : job ≡ job_at v.start j) where
    same_job : job_at m.start j ≡ job
    same_job = ap (λ (z : BoardState). job_at z.start j) view ∙ sym job-is

    -- the job can be done
    pub can_do : CanDo m.start work n m.slots job got
    can_do = subst (λ (z : Job). CanDo m.start work n m.slots z got) same_job (finish_can m w j n got work o finish_here (work-is ∙ ap (λ (z : BoardState). z.start.work) (sym view)) count)

    -- once it is done, the state is the one after the step
    pub done_is : (slots : List Slot) (d : Done) → ((st : Start) → CanDo st work n m.slots job got → (slots ≡ put m.slots (left st job got)) × (d ≡ said st job got))
        → state_of m.start slots m.next m.cursor (set m.hands w Idle) (set m.done j (Some d)) ≡ after_event m (Finish w)
    done_is slots d did =
        let x = did m.start can_do in
        finished_is m w j got slots d finish_here (x.0 ∙ ap (λ (z : Job). put m.slots (left m.start z got)) (sym same_job)) (x.1 ∙ ap (λ (z : Job). said m.start z got) (sym same_job))
