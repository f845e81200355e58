-- Each step keeps the rule of the machine.
use Rattle.std.proofs.Common.{◌≡◌, ◌≢◌, ℕ, zero, suc, ◌+◌, ◌<◌, ◌≤◌, List, [], ◌∷◌, length, set, sym, refl, ap, arith, get_or, take, drop, subst, ◌∙◌, ⊎_elim, Bool, true, false, eqb, cond, nat_lt, not, length-set, get_or-set_same, get_or-set_other}
use Rattle.std.specs.Prelude.{Option, None, Some, is_some, IsSome, ◌&&◌, slice_get}
use Rattle.std.proofs.lemmas.Bool.{false≢true}
use Rattle.std.proofs.lemmas.List.{take_more, drop_more}
use Rattle.std.proofs.lemmas.List.Sums.{sum_by-cons}
use Rattle.std.proofs.lemmas.Option.{slice_get-get_or}
use mathlib.Core.Logic.{dite}
use native.Mathlib.Decide.{ℕ_discrete}
use Rattle.fusion_core.proofs.ListLemmas.{slice_get-set}
use Rattle.fusion_core.specs.declared.board.done.Done.{Done}
use Rattle.fusion_core.specs.declared.board.event.Event.{Event}
use Rattle.fusion_core.specs.declared.board.event.Event.TheVariants.{Claim, Draw, Finish}
use Rattle.fusion_core.specs.declared.board.hand.Hand.{Hand}
use Rattle.fusion_core.specs.declared.board.hand.Hand.TheVariants.{Idle, Works}
use Rattle.fusion_core.specs.declared.board.job.Job.{Job}
use Rattle.fusion_core.specs.declared.board.job.Job.TheVariants.{Check}
use Rattle.fusion_core.specs.declared.board.slot.Slot.{Slot}
use Rattle.fusion_core.specs.Jobs.{Start, job_at, names, draws, drawn_list, slots_held, left, said, drawn_for}
use Rattle.fusion_core.specs.Boards.{draw_count}
use Rattle.fusion_core.specs.BoardStates.{BoardState, works, has_drawn, waits, done_at, is_done, drawn_by, drawn_count, Lie, IsResult, touched_by, put, is_idle, may_draw, has_all, may_finish, allowed, claimed, drawn, finished, after_draw, after_finish, after_event, below, IsWhole}
use Rattle.fusion_core.specs.Counts.{count_of}
use Rattle.fusion_core.proofs.SumLemmas.{none_no_some, some_same, sum_by-set, term_le, items_le, item_le, count_of-append, count_of-take-le, same_test, no_test, zip_set, zip_term_le}
use Rattle.fusion_core.proofs.SlotLemmas.{keys, put-length, put-other, lie-put, lie-keep, keys-left, got-said, kinds-put}
use Rattle.fusion_core.proofs.ReadyLemmas.{apart, inside}

abbrev hand_got : Hand → Option ℕ
hand_got Idle = None
hand_got (Works j got) = got

abbrev hand_job : Hand → ℕ
hand_job Idle = 0
hand_job (Works j got) = j

abbrev pub is_working : Hand → Bool
is_working Idle = false
is_working (Works j got) = true

below_more : (j n : ℕ) → below j (n + 1) ≡ below j n + cond (eqb n j) 1 0
below_more j n = grind arith

pub below_is : (j n : ℕ) → 1 ≤ below j n → j < n
below_is j n h = grind (arith, h)

none_is_none : {P : Type 0} (got : Option ℕ) → None ≡ got → IsSome got → P
none_is_none got e h = absurd (false≢true (subst IsSome (sym e) h))

not_done : (d : Option Done) → is_done d ≡ 0 → d ≡ None
not_done None e = refl
not_done (Some d) e = absurd (omega arith)

some_not_none : (d : Done) → Some d ≡ None → ⊥
some_not_none d e = false≢true (sym (ap is_some e))

not_true : (b : Bool) → not b ≡ true → b ≡ false
not_true true e = absurd (false≢true e)
not_true false e = refl

-- the job of a hand is claimed
pub hand_claimed : (m : BoardState) (w j : ℕ) (got : Option ℕ) → IsWhole m → slice_get m.hands w ≡ Some (Works j got) → (j < m.next) × (done_at m.done j ≡ None) × (j < length m.start.jobs)
hand_claimed m w j got o at =
    let t = term_le (works j) m.hands w (Works j got) at in let one = same_test j j refl in
    let c = o.once j in
    let most : below j m.next ≤ 1 = grind arith in
    let lt : j < m.next = below_is j m.next (omega arith) in
    let fits = o.next_fits in (lt, not_done (done_at m.done j) (omega arith), omega arith)

pub claim_keeps : (m : BoardState) (w : ℕ) → IsWhole m → slice_get m.hands w ≡ Some Idle → m.next < length m.start.jobs → IsWhole (claimed m w)
claim_keeps m w o at lt =
    let h : Hand = Works m.next None in let st : Start = m.start in
    record {
      ready = o.ready;
      slot_count = o.slot_count;
      done_count = o.done_count;
      next_fits = omega arith;
      once = λ j. omega (arith, sum_by-set (works j) m.hands w Idle h at, o.once j, below_more j m.next);
      drawn_once = λ c. omega (arith, sum_by-set (has_drawn c) m.hands w Idle h at, o.drawn_once c);
      wanted = λ v j got e some-got. ⊎_elim (λ t. none_is_none got (ap hand_got t.1) some-got) (λ t. o.wanted v j got t.1 some-got) (slice_get-set m.hands w v h (Works j got) e);
      room = omega (arith, sum_by-set (waits st) m.hands w Idle h at, o.room, ap draw_count (drop_more st.jobs m.next (Check 0) lt), sum_by-cons (λ job. cond (draws job) 1 0) (job_at st m.next) (drop (m.next + 1) st.jobs));
      result = o.result;
      else_same = o.else_same;
      kinds = o.kinds;
    }

pub draw_keeps : (m : BoardState) (w j : ℕ) → IsWhole m → slice_get m.hands w ≡ Some (Works j None) → draws (job_at m.start j) ≡ true
    → (m.cursor < length m.start.free) × IsWhole (drawn m w j)
draw_keeps m w j o at wants =
    let st : Start = m.start in let x : ℕ = get_or st.free m.cursor 0 in
    let one : waits st (Works j None) ≡ 1 = ap (λ (b : Bool). cond b 1 0) wants in
    let t = term_le (waits st) m.hands w (Works j None) at in let r = o.room in
    let lt : m.cursor < length st.free = omega arith in
    let P : Option ℕ → Type 0 = λ got. IsWhole record { start = st; slots = m.slots; next = m.next; cursor = m.cursor + 1; hands = set m.hands w (Works j got); done = m.done } in
    let h : Hand = Works j (Some x) in (
      lt,
      subst P (sym (slice_get-get_or st.free m.cursor 0 lt)) record {
        ready = o.ready;
        slot_count = o.slot_count;
        done_count = o.done_count;
        next_fits = o.next_fits;
        once = λ i. omega (arith, sum_by-set (works i) m.hands w (Works j None) h at, o.once i);
        drawn_once = λ c. omega (arith, sum_by-set (has_drawn c) m.hands w (Works j None) h at, o.drawn_once c, ap (count_of c) (take_more st.free m.cursor 0 lt), count_of-append c (take m.cursor st.free) (x ∷ []));
        wanted = λ v i got e some-got. ⊎_elim (λ p. ap (λ (k : ℕ). draws (job_at st k)) (sym (ap hand_job p.1)) ∙ wants) (λ p. o.wanted v i got p.1 some-got) (slice_get-set m.hands w v h (Works i got) e);
        room = omega (arith, sum_by-set (waits st) m.hands w (Works j None) h at, o.room, one);
        result = o.result;
        else_same = o.else_same;
        kinds = o.kinds;
      },
    )

-- what a done job drew is among what all drew
pub drawn_le : (jobs : List Job) (ds : List (Option Done)) (j c : ℕ) → j < length jobs → length ds ≡ length jobs → drawn_by (get_or jobs j (Check 0)) (done_at ds j) c ≤ drawn_count jobs ds c
drawn_le jobs ds j c lt e = zip_term_le (λ p. drawn_by p.0 p.1 c) jobs ds j (Check 0) None lt e

-- the slots of a done job are the cell that it drew and those that it names
pub touched_is : (st : Start) (j k : ℕ) (d : Option Done) → count_of k (touched_by st j d) ≤ drawn_by (job_at st j) d k + count_of k (names (length st.cells) (job_at st j))
touched_is st j k None = omega arith
touched_is st j k (Some d) = omega (arith, count_of-append k (drawn_list (drawn_for (job_at st j) d)) (names (length st.cells) (job_at st j)))

not_past : (ds : List (Option Done)) (j : ℕ) (d : Done) → done_at ds j ≡ Some d → j < length ds
not_past [] j d e = none_no_some d e
not_past (x ∷ xs) zero d e = omega arith
not_past (x ∷ xs) (suc j) d e = let h = not_past xs j d e in omega arith

-- a done job was claimed
pub done_claimed : (m : BoardState) (j : ℕ) (d : Done) → IsWhole m → done_at m.done j ≡ Some d → (j < m.next) × (j < length m.start.jobs)
done_claimed m j d o is =
    let one : is_done (done_at m.done j) ≡ 1 = ap is_done is in let c = o.once j in
    let lt : j < m.next = below_is j m.next (omega arith) in let fits = o.next_fits in (lt, omega arith)

-- a slot of a hand is no slot of a done job
pub hand_apart : (m : BoardState) (w j i k : ℕ) (got : Option ℕ) (d : Done) → IsWhole m → slice_get m.hands w ≡ Some (Works j got) → done_at m.done i ≡ Some d
    → 0 < count_of k (slots_held (length m.start.cells) (job_at m.start i) (drawn_for (job_at m.start i) d)) → count_of k (slots_held (length m.start.cells) (job_at m.start j) got) ≡ 0
hand_apart m w j i k got d o at is more =
    let st : Start = m.start in let n : ℕ = length st.cells in
    let h = hand_claimed m w j got o at in
    let inside-i : i < length st.jobs = let p = not_past m.done i d is in let q = o.done_count in omega arith in
    let ne : i ≢ j = λ e. some_not_none d (sym is ∙ ap (done_at m.done) e ∙ h.1) in
    let named = items_le (λ job. count_of k (names n job)) st.jobs i j (Check 0) inside-i h.2 ne in
    let a = apart st o.ready k in
    let drawn-here = term_le (has_drawn k) m.hands w (Works j got) at in
    let drawn-there : count_of k (drawn_list (drawn_for (job_at st i) d)) ≤ drawn_count st.jobs m.done k = subst (λ (z : Option Done). drawn_by (job_at st i) z k ≤ drawn_count st.jobs m.done k) is (drawn_le st.jobs m.done i k inside-i o.done_count) in
    let all = o.drawn_once k in let some-free = count_of-take-le k m.cursor st.free in
    omega (arith, count_of-append k (drawn_list (drawn_for (job_at st i) d)) (names n (job_at st i)), count_of-append k (drawn_list got) (names n (job_at st j)))

-- the slots of a hand are there, each once
pub hand_once : (m : BoardState) (w j k : ℕ) (got : Option ℕ) → IsWhole m → slice_get m.hands w ≡ Some (Works j got)
    → (count_of k (slots_held (length m.start.cells) (job_at m.start j) got) ≤ 1) × (0 < count_of k (slots_held (length m.start.cells) (job_at m.start j) got) → k < length m.slots)
hand_once m w j k got o at =
    let st : Start = m.start in let n : ℕ = length st.cells in
    let h = hand_claimed m w j got o at in
    let named = item_le (λ job. count_of k (names n job)) st.jobs j (Check 0) h.2 in
    let a = apart st o.ready k in
    let drawn-here = term_le (has_drawn k) m.hands w (Works j got) at in
    let all = o.drawn_once k in let some-free = count_of-take-le k m.cursor st.free in let split = count_of-append k (drawn_list got) (names n (job_at st j)) in
    (omega arith, λ more. subst (λ (l : ℕ). k < l) (sym o.slot_count) (inside st o.ready j k h.2 (omega arith)))

pub finish_keeps : (m : BoardState) (w j : ℕ) (got : Option ℕ) → IsWhole m → slice_get m.hands w ≡ Some (Works j got) → draws (job_at m.start j) ≡ is_some got → IsWhole (finished m w j got)
finish_keeps m w j got o at wants =
    let st : Start = m.start in let n : ℕ = length st.cells in let job : Job = job_at st j in
    let ps : List (ℕ × Slot) = left st job got in let d : Done = said st job got in let ds : List (Option Done) = set m.done j (Some d) in
    let h = hand_claimed m w j got o at in
    let inside-done : j < length m.done = let q = o.done_count in let r = h.2 in omega arith in
    let here : done_at ds j ≡ Some d = get_or-set_same m.done j (Some d) None inside-done in
    let there : (i : ℕ) → i ≢ j → done_at ds i ≡ done_at m.done i = λ i ne. get_or-set_other m.done j i (Some d) None ne in
    let at-keys = keys-left st job got wants in
    let told = got-said st job got wants in
    let one : (k : ℕ) → count_of k (keys ps) ≤ 1 = λ k. subst (λ (l : List ℕ). count_of k l ≤ 1) (sym at-keys) (hand_once m w j k got o at).0 in
    let fits : (k : ℕ) → 0 < count_of k (keys ps) → k < length m.slots = λ k. subst (λ (l : List ℕ). 0 < count_of k l → k < length m.slots) (sym at-keys) (hand_once m w j k got o at).1 in
    record {
      ready = o.ready;
      slot_count = put-length m.slots ps ∙ o.slot_count;
      done_count = length-set m.done j (Some d) ∙ o.done_count;
      next_fits = o.next_fits;
      once = λ i. dite (ℕ_discrete i j)
          (λ e. let same = same_test j i (sym e) in omega (arith, sum_by-set (works i) m.hands w (Works j got) Idle at, o.once i, ap is_done (ap (done_at ds) e ∙ here), ap is_done (ap (done_at m.done) e ∙ h.1)))
          (λ ne. let other = no_test j i (λ e. ne (sym e)) in omega (arith, sum_by-set (works i) m.hands w (Works j got) Idle at, o.once i, ap is_done (there i ne)));
      drawn_once = λ c. let before : drawn_by job (done_at m.done j) c ≡ 0 = ap (λ (z : Option Done). drawn_by job z c) h.1 in let now : count_of c (drawn_list (drawn_for job d)) ≡ count_of c (drawn_list got) = ap (λ (z : Option ℕ). count_of c (drawn_list z)) told in
          omega (arith, sum_by-set (has_drawn c) m.hands w (Works j got) Idle at, o.drawn_once c, zip_set (λ p. drawn_by p.0 p.1 c) st.jobs m.done j (Check 0) None (Some d) h.2 o.done_count);
      wanted = λ v i g e some-got. ⊎_elim (λ p. absurd (false≢true (ap is_working p.1))) (λ p. o.wanted v i g p.1 some-got) (slice_get-set m.hands w v Idle (Works i g) e);
      room = omega (arith, sum_by-set (waits st) m.hands w (Works j got) Idle at, o.room);
      result = λ i e is. dite (ℕ_discrete i j)
          (λ same. let e-is : e ≡ d = some_same e d (sym is ∙ ap (done_at ds) same ∙ here) in
          let P : ℕ → Done → Type 0 = λ z y. IsResult st (put m.slots ps) z y in
          let new : P j d = record {
            drawn = wants ∙ ap is_some (sym told);
            said = ap (said st job) (sym told);
            lie = subst (λ (z : Option ℕ). Lie (put m.slots ps) (left st job z)) (sym told) (lie-put m.slots ps one fits);
          } in subst (λ (y : Done). P i y) (sym e-is) (subst (λ (z : ℕ). P z d) (sym same) new))
          (λ ne. let was : done_at m.done i ≡ Some e = sym (there i ne) ∙ is in let old = o.result i e was in
          let old-keys = keys-left st (job_at st i) (drawn_for (job_at st i) e) old.drawn in record {
            drawn = old.drawn;
            said = old.said;
            lie = lie-keep m.slots ps (left st (job_at st i) (drawn_for (job_at st i) e)) old.lie
                (λ k more. subst (λ (l : List ℕ). count_of k l ≡ 0) (sym at-keys) (hand_apart m w j i k got e o at was (subst (λ (l : List ℕ). 0 < count_of k l) old-keys more)));
          });
      else_same = λ k un. let mine-not : count_of k (slots_held n job got) ≡ 0 = subst (λ (z : Option ℕ). count_of k (slots_held n job z) ≡ 0) told (subst (λ (z : Option Done). count_of k (touched_by st j z) ≡ 0) here (un j)) in
          put-other m.slots ps k (subst (λ (l : List ℕ). count_of k l ≡ 0) (sym at-keys) mine-not)
          ∙ o.else_same k (λ i. dite (ℕ_discrete i j) (λ e. ap (λ (z : ℕ). count_of k (touched_by st z (done_at m.done z))) e ∙ ap (λ (z : Option Done). count_of k (touched_by st j z)) h.1) (λ ne. ap (λ (z : Option Done). count_of k (touched_by st i z)) (sym (there i ne)) ∙ un i));
      kinds = λ k. kinds-put st m.slots job got k (lie-put m.slots ps one fits) (o.kinds k);
    }

-- ---- the machine

pub some_idle : (h : Option Hand) → is_idle h ≡ true → h ≡ Some Idle
some_idle None e = absurd (false≢true e)
some_idle (Some Idle) e = refl
some_idle (Some (Works j got)) e = absurd (false≢true e)

pub all_of : (b c : Bool) → b && c ≡ true → (b ≡ true) × (c ≡ true)
all_of true true e = (refl, refl)
all_of true false e = absurd (false≢true e)
all_of false c e = absurd (false≢true e)

pub is_below : (m n : ℕ) → nat_lt m n ≡ true → m < n
is_below m n e = grind (arith, e)

pub has_what : (st : Start) (j : ℕ) (got : Option ℕ) → has_all st j got ≡ true → draws (job_at st j) ≡ is_some got
has_what st j None e = not_true (draws (job_at st j)) e
has_what st j (Some c) e = e

step_draw : (m : BoardState) (w : ℕ) (h : Option Hand) → IsWhole m → slice_get m.hands w ≡ h → may_draw m.start h ≡ true → IsWhole (after_draw m w h)
step_draw m w None o at e = absurd (false≢true e)
step_draw m w (Some Idle) o at e = absurd (false≢true e)
step_draw m w (Some (Works j None)) o at e = (draw_keeps m w j o at e).1
step_draw m w (Some (Works j (Some c))) o at e = absurd (false≢true e)

step_finish : (m : BoardState) (w : ℕ) (h : Option Hand) → IsWhole m → slice_get m.hands w ≡ h → may_finish m.start h ≡ true → IsWhole (after_finish m w h)
step_finish m w None o at e = absurd (false≢true e)
step_finish m w (Some Idle) o at e = absurd (false≢true e)
step_finish m w (Some (Works j got)) o at e = finish_keeps m w j got o at (has_what m.start j got e)

-- an allowed event keeps the rule
pub step_keeps : (m : BoardState) (e : Event) → IsWhole m → allowed m e ≡ true → IsWhole (after_event m e)
step_keeps m (Claim w) o h = let both = all_of (is_idle (slice_get m.hands w)) (nat_lt m.next (length m.start.jobs)) h in claim_keeps m w o (some_idle (slice_get m.hands w) both.0) (is_below m.next (length m.start.jobs) both.1)
step_keeps m (Draw w) o h = step_draw m w (slice_get m.hands w) o refl h
step_keeps m (Finish w) o h = step_finish m w (slice_get m.hands w) o refl h
