-- A whole machine with all jobs done meets the end of its board.
use Rattle.std.proofs.Common.{◌≡◌, ℕ, zero, suc, ◌+◌, ◌<◌, ◌≤◌, List, [], ◌∷◌, length, sym, refl, ap, arith, get_or, take, drop, subst, ◌∙◌}
use Rattle.std.specs.Prelude.{Option, None, Some, IsSome, replicate, slice_get, sum_by}
use Rattle.std.proofs.lemmas.Bool.{false≢true}
use Rattle.std.proofs.lemmas.List.Sums.{sum_by-cons}
use Rattle.std.proofs.lemmas.List.{take-append-drop, length-replicate, length-map}
use Rattle.fusion_core.specs.declared.board.done.Done.{Done}
use Rattle.fusion_core.specs.declared.board.done.Done.TheVariants as done
use Rattle.fusion_core.specs.declared.board.hand.Hand.{Hand}
use Rattle.fusion_core.specs.declared.board.hand.Hand.TheVariants.{Idle, Works}
use Rattle.fusion_core.specs.declared.board.job.Job.{Job}
use Rattle.fusion_core.specs.declared.board.job.Job.TheVariants.{Fresh, Stay, Enter, Leave, Check}
use Rattle.fusion_core.specs.declared.board.slot.Slot.{Slot}
use Rattle.fusion_core.specs.Jobs.{Start, slot_at, job_at, names, said, drawn_for, drawn_list}
use Rattle.fusion_core.specs.Boards.{IsReady, name_count}
use Rattle.fusion_core.specs.BoardStates.{BoardState, IsResult, works, has_drawn, waits, done_at, is_done, drawn_count, drawn_by, touched_by, below, IsWhole, opening}
use Rattle.fusion_core.specs.BoardEnds.{End, Ends, IsGiven, all_done, frees}
use Rattle.fusion_core.specs.BoardLaws.{IsOver}
use Rattle.fusion_core.specs.Counts.{count_of}
use Rattle.fusion_core.proofs.SumLemmas.{none_no_some, some_same, sum_by_zero, replicate_zero, count_of-append, zip_none}
use Rattle.fusion_core.proofs.ReadyLemmas.{apart}
use Rattle.fusion_core.proofs.ResultLemmas.{has_ended}
use Rattle.fusion_core.proofs.StepLemmas.{drawn_le, hand_claimed, is_working}

-- with all jobs done no hand has one
all_idle : (m : BoardState) → IsWhole m → IsOver m → (i : ℕ) (h : Hand) → slice_get m.hands i ≡ Some h → h ≡ Idle
all_idle m o all i Idle at = refl
all_idle m o all i (Works j got) at = let h = hand_claimed m i j got o at in absurd (false≢true (subst IsSome h.1 (all j h.2)))

frees_le : (st : Start) (job : Job) (d : Done) (c : ℕ) → d ≡ said st job (drawn_for job d) → frees c d ≤ count_of c (names (length st.cells) job)
frees_le st (Fresh key) d c e = subst (λ (z : Done). frees c z ≤ 0) (sym e) (omega arith)
frees_le st (Stay cell) d c e = subst (λ (z : Done). frees c z ≤ count_of c (cell ∷ [])) (sym e) (omega arith)
frees_le st (Enter dock) d c e = subst (λ (z : Done). frees c z ≤ count_of c (◌+◌ (length st.cells) dock ∷ [])) (sym e) (omega arith)
frees_le st (Leave cell dock) d c e = subst (λ (z : Done). frees c z ≤ count_of c (◌+◌ (length st.cells) dock ∷ cell ∷ [])) (sym e) (omega arith)
frees_le st (Check cell) d c e = subst (λ (z : Done). frees c z ≤ count_of c (cell ∷ [])) (sym e) (omega arith)

sum_by_each : {A B : Type 0} (f : A → ℕ) (g : B → ℕ) (xs : List A) (ys : List B) (b : B) (dflt : A) → length xs ≡ length ys
    → ((j : ℕ) → j < length xs → f (get_or xs j dflt) ≤ g (get_or ys j b)) → sum_by f xs ≤ sum_by g ys
sum_by_each f g [] ys b dflt e h = omega arith
sum_by_each f g (x ∷ xs) [] b dflt e h = absurd (omega arith)
sum_by_each f g (x ∷ xs) (y ∷ ys) b dflt e h = omega (arith, h 0 (omega arith), sum_by_each f g xs ys b dflt (omega arith) (λ j lt. h (suc j) (omega arith)), sum_by-cons f x xs, sum_by-cons g y ys)

pub done_there : (ds : List Done) (j : ℕ) (dflt : Done) → j < length ds → done_at (all_done ds) j ≡ Some (get_or ds j dflt)
done_there [] j dflt h = absurd (omega arith)
done_there (x ∷ xs) zero dflt h = refl
done_there (x ∷ xs) (suc j) dflt h = done_there xs j dflt (omega arith)

pub freed_le : (m : BoardState) (ds : List Done) → IsWhole m → all_done ds ≡ m.done → (c : ℕ) → sum_by (frees c) ds ≤ name_count m.start c m.start.jobs
freed_le m ds o is c =
    let st : Start = m.start in let dflt : Done = done.Cell 0 in
    let count : length ds ≡ length st.jobs = sym (length-map ds Some) ∙ ap length is ∙ o.done_count in
    sum_by_each (frees c) (λ job. count_of c (names (length st.cells) job)) ds st.jobs (Check 0) dflt count
    (λ j lt. let lt' : j < length st.jobs = omega arith in let was = sym (ap (λ (l : List (Option Done)). done_at l j) is) ∙ done_there ds j dflt lt in frees_le st (job_at st j) (get_or ds j dflt) c (o.result j (get_or ds j dflt) was).said)

-- what it gives back is its end
pub given_ends : (m : BoardState) (e : End) → IsWhole m → IsOver m → IsGiven m e → Ends m.start e
given_ends m e o all g =
    let st : Start = m.start in
    let count : length e.done ≡ length st.jobs = sym (length-map e.done Some) ∙ ap length g.done ∙ o.done_count in
    let none-held : (c : ℕ) → sum_by (has_drawn c) m.hands ≡ 0 = λ c. sum_by_zero (has_drawn c) m.hands (λ i h at. ap (has_drawn c) (all_idle m o all i h at)) in
    let got : (c : ℕ) → drawn_count st.jobs m.done c ≡ count_of c (take m.cursor st.free) = λ c. omega (arith, none-held c, o.drawn_once c) in
    let cut : (c : ℕ) → count_of c st.free ≡ count_of c (take m.cursor st.free) + count_of c (drop m.cursor st.free) = λ c. ap (count_of c) (sym (take-append-drop m.cursor st.free)) ∙ count_of-append c (take m.cursor st.free) (drop m.cursor st.free) in
    let freed : (c : ℕ) → sum_by (frees c) e.done ≤ name_count st c st.jobs = freed_le m e.done o g.done in
    let same : (c : ℕ) → drawn_count st.jobs (all_done e.done) c ≡ drawn_count st.jobs m.done c = λ c. ap (λ (l : List (Option Done)). drawn_count st.jobs l c) g.done in
    record {
      cell_count = g.cells;
      dock_count = g.docks;
      done_count = count;
      ended = λ j d lt is.
          let was : done_at m.done j ≡ Some d = sym (ap (λ (l : List (Option Done)). done_at l j) g.done) ∙ is in
          has_ended st e j d o.ready lt (subst (λ (l : List Slot). IsResult st l j d) (sym g.slots) (o.result j d was))
          (λ c. let a : count_of c (drawn_list (drawn_for (job_at st j) d)) ≤ drawn_count st.jobs m.done c = subst (λ (z : Option Done). drawn_by (job_at st j) z c ≤ drawn_count st.jobs m.done c) was (drawn_le st.jobs m.done j c lt o.done_count) in
          let g2 = got c in let b = cut c in omega arith);
      drawn_once = λ c. let a = got c in let b = cut c in let s = same c in omega arith;
      free = λ c. let a = got c in let b = cut c in let f = g.free c in let s = same c in omega arith;
      free_once = λ c. let b = cut c in let f = g.free c in let t = freed c in let p = apart st o.ready c in omega arith;
      else_same = λ k un. ap (λ (l : List Slot). slot_at l k) g.slots ∙ o.else_same k (λ j. ap (λ (l : List (Option Done)). count_of k (touched_by st j (done_at l j))) (sym g.done) ∙ un j);
    }

-- ---- the start

pub none_done : (n j : ℕ) → done_at (replicate n None) j ≡ None
none_done zero j = refl
none_done (suc n) zero = refl
none_done (suc n) (suc j) = none_done n j

idle_no_works : (n w j : ℕ) (got : Option ℕ) → slice_get (replicate n Idle) w ≡ Some (Works j got) → ⊥
idle_no_works zero w j got e = none_no_some (Works j got) e
idle_no_works (suc n) zero j got e = false≢true (ap is_working (some_same Idle (Works j got) e))
idle_no_works (suc n) (suc w) j got e = idle_no_works n w j got e

nothing_below : (j : ℕ) → below j 0 ≡ 0
nothing_below j = grind arith

-- a ready board begins whole
pub opening_whole : (st : Start) (n : ℕ) → IsReady st → IsWhole (opening st n)
opening_whole st n r = record {
  ready = r;
  slot_count = refl;
  done_count = length-replicate (length st.jobs) None;
  next_fits = omega arith;
  once = λ j. omega (arith, replicate_zero (works j) n Idle refl, ap is_done (none_done (length st.jobs) j), nothing_below j);
  drawn_once = λ c. omega (arith, replicate_zero (has_drawn c) n Idle refl, zip_none (λ p. drawn_by p.0 p.1 c) st.jobs (length st.jobs) None (λ job. refl));
  wanted = λ w j got e some-got. absurd (idle_no_works n w j got e);
  room = omega (arith, replicate_zero (waits st) n Idle refl, r.enough);
  result = λ j d e. none_no_some d (sym (none_done (length st.jobs) j) ∙ e);
  else_same = λ k un. refl;
  kinds = λ k. refl;
}
