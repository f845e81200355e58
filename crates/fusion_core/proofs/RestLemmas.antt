-- A free cell that was not drawn yet is at home, and free.
use Rattle.std.proofs.Common.{◌≡◌, ℕ, ◌+◌, ◌<◌, length, sym, refl, ap, arith, take, drop, ◌∙◌}
use Rattle.std.specs.Prelude.{Option, None, Some, slice_get, sum_by, true}
use Rattle.std.proofs.lemmas.List.{take-append-drop}
use Rattle.block_heap.specs.Cells.{is_free_at}
use Rattle.fusion_core.specs.declared.board.done.Done.{Done}
use Rattle.fusion_core.specs.declared.board.hand.Hand.{Hand}
use Rattle.fusion_core.specs.declared.board.hand.Hand.TheVariants.{Idle, Works}
use Rattle.fusion_core.specs.Jobs.{Start, drawn_list, job_at, names}
use Rattle.fusion_core.specs.BoardStates.{BoardState, IsWhole, done_at, drawn_count, has_drawn, holds, touched_by}
use Rattle.fusion_core.specs.BoardLaws.{RestIsFree}
use Rattle.fusion_core.specs.Counts.{count_of}
use Rattle.fusion_core.proofs.ReadyLemmas.{unnamed}
use Rattle.fusion_core.proofs.ResultLemmas.{free_held}
use Rattle.fusion_core.proofs.StepLemmas.{done_claimed, drawn_le, hand_claimed, touched_is}
use Rattle.fusion_core.proofs.SumLemmas.{count_of-append, sum_by_zero, term_le}

module _ (m : BoardState) (c : ℕ) (o : IsWhole m) (more : 0 < count_of c (drop m.cursor m.start.free)) where
  abbrev st : Start
  st = m.start

  cut : count_of c st.free ≡ count_of c (take m.cursor st.free) + count_of c (drop m.cursor st.free)
  cut = ap (count_of c) (sym (take-append-drop m.cursor st.free)) ∙ count_of-append c (take m.cursor st.free) (drop m.cursor st.free)

  not_drawn : sum_by (has_drawn c) m.hands + drawn_count st.jobs m.done c ≡ 0
  not_drawn = (let a = cut in let b = o.ready.distinct c in let d = o.drawn_once c in let q = more in omega arith)

  is_free : is_free_at st.cells c ≡ true
  is_free = o.ready.free c (let a = cut in let q = more in omega arith)

  no_name : (j : ℕ) → j < length st.jobs → count_of c (names (length st.cells) (job_at st j)) ≡ 0
  no_name j lt = unnamed st c (job_at st j) is_free (o.ready.suited j lt)

  not_held : (i : ℕ) (h : Hand) → slice_get m.hands i ≡ Some h → holds st c h ≡ 0
  not_held i Idle at = refl
  not_held i (Works j got) at =
      let claimed = hand_claimed m i j got o at in
      let drawn = term_le (has_drawn c) m.hands i (Works j got) at in
      let all = not_drawn in let named = no_name j claimed.2 in let split = count_of-append c (drawn_list got) (names (length st.cells) (job_at st j)) in
      omega arith

  not_touched : (j : ℕ) (d : Option Done) → done_at m.done j ≡ d → count_of c (touched_by st j d) ≡ 0
  not_touched j None is = refl
  not_touched j (Some d) is =
      let claimed = done_claimed m j d o is in
      let drawn = drawn_le st.jobs m.done j c claimed.1 o.done_count in
      let same = ap (λ (z : Option Done). count_of c (touched_by st j z)) is in
      let all = not_drawn in let named = no_name j claimed.1 in let split = touched_is st j c (done_at m.done j) in
      omega arith

pub rest_is_free : RestIsFree
rest_is_free m c o more =
    let held = free_held m.start.cells m.start.docks c (is_free m c o more) in (
      sum_by_zero (holds m.start c) m.hands (not_held m c o more),
      (held.0, o.else_same c (λ j. not_touched m c o more j (done_at m.done j) refl) ∙ held.1),
    )
