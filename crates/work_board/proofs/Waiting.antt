-- What a seat is to take is at home, as it was when the board was made.
use Rattle.std.proofs.Common.{◌≡◌, ℕ, ◌+◌, ◌<◌, length, sym, refl, ap, arith, get_or, take, drop, subst, ◌∙◌}
use Rattle.std.specs.Prelude.{Option, None, Some, slice_get}
use Rattle.std.proofs.lemmas.List.{take-append-drop, drop_more}
use Rattle.fusion_core.specs.declared.board.done.Done.{Done}
use Rattle.fusion_core.specs.declared.board.hand.Hand.{Hand}
use Rattle.fusion_core.specs.declared.board.hand.Hand.TheVariants.{Idle, Works}
use Rattle.fusion_core.specs.declared.board.job.Job.TheVariants.{Check}
use Rattle.fusion_core.specs.Jobs.{Start, drawn_list, first_at, job_at, names, slot_at}
use Rattle.fusion_core.specs.BoardStates.{BoardState, IsWhole, away, done_at, has_drawn, holds, touched_by}
use Rattle.fusion_core.specs.Counts.{count_of}
use Rattle.fusion_core.proofs.SumLemmas.{count_of-append, count_of-cons, count_of-take-le, item_le, items_le, same_test, sum_by_zero, term_le}
use Rattle.fusion_core.proofs.ReadyLemmas.{apart, inside}
use Rattle.fusion_core.proofs.StepLemmas.{done_claimed, drawn_le, hand_claimed, touched_is}

-- the slot is at home, and as it was
pub record Waits (m : BoardState) (k : ℕ) : Type 0 where
  pub inside : k < length m.slots
  pub home : away m k ≡ 0
  pub same : slot_at m.slots k ≡ first_at m.start k

-- a slot that no job below the next one names, and that was not drawn
module _ (m : BoardState) (k : ℕ) (o : IsWhole m) (none_drawn : count_of k (take m.cursor m.start.free) ≡ 0)
    (none_named : (j : ℕ) → j < m.next → count_of k (names (length m.start.cells) (job_at m.start j)) ≡ 0) where
  -- no hand has it
  not_held : (i : ℕ) (h : Hand) → slice_get m.hands i ≡ Some h → holds m.start k h ≡ 0
  not_held i Idle at = refl
  not_held i (Works j got) at =
      let c = hand_claimed m i j got o at in let d = o.drawn_once k in let t = term_le (has_drawn k) m.hands i (Works j got) at in
      let none = none_drawn in
      omega (arith, count_of-append k (drawn_list got) (names (length m.start.cells) (job_at m.start j)), none_named j c.0)

  -- and no job that is done had it
  not_touched : (j : ℕ) (d : Option Done) → done_at m.done j ≡ d → count_of k (touched_by m.start j d) ≡ 0
  not_touched j None is = refl
  not_touched j (Some d) is =
      let c = done_claimed m j d o is in let e = o.drawn_once k in
      let drawn = drawn_le m.start.jobs m.done j k c.1 o.done_count in
      let same = ap (λ (z : Option Done). count_of k (touched_by m.start j z)) is in
      let named = none_named j c.0 in let none = none_drawn in let split = touched_is m.start j k (done_at m.done j) in
      omega arith

  unused : (away m k ≡ 0) × (slot_at m.slots k ≡ first_at m.start k)
  unused = (sum_by_zero (holds m.start k) m.hands not_held, o.else_same k (λ j. not_touched j (done_at m.done j) refl))

-- what the next job names waits for it
pub named_waits : (m : BoardState) (k : ℕ) → IsWhole m → m.next < length m.start.jobs → 0 < count_of k (names (length m.start.cells) (job_at m.start m.next)) → Waits m k
named_waits m k o lt more =
    let st : Start = m.start in let n : ℕ = length st.cells in let a = apart st o.ready k in
    let one = item_le (λ job. count_of k (names n job)) st.jobs m.next (Check 0) lt in
    let some_free = count_of-take-le k m.cursor st.free in
    let u = unused m k o (omega arith) (λ j below. let two = items_le (λ job. count_of k (names n job)) st.jobs j m.next (Check 0) (omega arith) lt (λ e. absurd (omega arith)) in omega arith) in
    record {
      inside = subst (λ (l : ℕ). k < l) (sym o.slot_count) (inside st o.ready m.next k lt (omega arith));
      home = u.0;
      same = u.1;
    }

-- the next free cell waits too
pub free_waits : (m : BoardState) → IsWhole m → m.cursor < length m.start.free → (j : ℕ) → j < length m.start.jobs → Waits m (get_or m.start.free m.cursor 0)
free_waits m o lt j lt-j =
    let st : Start = m.start in let n : ℕ = length st.cells in let k : ℕ = get_or st.free m.cursor 0 in let a = apart st o.ready k in
    let here : count_of k (drop m.cursor st.free) ≡ 1 + count_of k (drop (m.cursor + 1) st.free) =
    ap (count_of k) (drop_more st.free m.cursor 0 lt) ∙ (let t = same_test k k refl in let c = count_of-cons k k (drop (m.cursor + 1) st.free) in omega arith) in
    let cut : count_of k st.free ≡ count_of k (take m.cursor st.free) + count_of k (drop m.cursor st.free) = ap (count_of k) (sym (take-append-drop m.cursor st.free)) ∙ count_of-append k (take m.cursor st.free) (drop m.cursor st.free) in
    let fits = o.next_fits in
    let u = unused m k o (omega arith) (λ i below. let one = item_le (λ job. count_of k (names n job)) st.jobs i (Check 0) (omega arith) in omega arith) in
    record {
      inside = subst (λ (l : ℕ). k < l) (sym o.slot_count) (inside st o.ready j k lt-j (omega arith));
      home = u.0;
      same = u.1;
    }
