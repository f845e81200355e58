-- In how many places the block of a key lies, while jobs are done.
use Rattle.std.proofs.Common.{◌≡◌, ◌≢◌, ℕ, ◌+◌, ◌<◌, ◌≤◌, List, [], ◌∷◌, length, set, sym, refl, ap, arith, subst, ◌∙◌, Bool, true, false, cond, get_or, get_or-set_other, length-set}
use Rattle.std.specs.Prelude.{Option, None, Some, is_some, slice_get, sum_by, count_by, ◌&&◌}
use Rattle.std.specs.List.{zip}
use Rattle.std.proofs.lemmas.Bool.{false≢true}
use Rattle.std.proofs.lemmas.List.Sums.{sum_by-cons}
use Rattle.std.proofs.lemmas.Option.{slice_get-get_or}
use Rattle.voxel_block.specs.declared.key.BlockKey.{BlockKey}
use Rattle.voxel_block.specs.declared.voxel.Voxel.{Voxel}
use Rattle.voxel_block.specs.Keys.{same_key}
use Rattle.voxel_block.proofs.KeyLaws.{key_itself}
use Rattle.block_heap.specs.declared.cell.Cell.TheVariants.{Free}
use Rattle.fusion_core.specs.declared.board.dock.Dock.TheVariants.{Full}
use Rattle.fusion_core.specs.declared.board.done.Done.{Done}
use Rattle.fusion_core.specs.declared.board.event.Event.{Event}
use Rattle.fusion_core.specs.declared.board.event.Event.TheVariants.{Claim, Draw, Finish}
use Rattle.fusion_core.specs.declared.board.hand.Hand.{Hand}
use Rattle.fusion_core.specs.declared.board.hand.Hand.TheVariants.{Idle, Works}
use Rattle.fusion_core.specs.declared.board.job.Job.{Job}
use Rattle.fusion_core.specs.declared.board.job.Job.TheVariants.{Fresh, Stay, Enter, Leave, Check}
use Rattle.fusion_core.specs.declared.board.slot.Slot.{Slot}
use Rattle.fusion_core.specs.declared.board.slot.Slot.TheVariants.{OfCell, OfDock, Away}
use Rattle.fusion_core.specs.BoardLaws.{is_fresh_of, is_place_of, made_count, place_count, KeepsPlaces, KeysLieOnce, Runs}
use Rattle.fusion_core.specs.BoardStates.{BoardState, after_draw, after_event, after_finish, allowed, done_at, finished, has_drawn, opening, may_finish, put, IsWhole}
use Rattle.fusion_core.specs.Jobs.{Start, departed, dock_slot, entered, first_at, freshened, job_at, left, said, slot_at, slots_of, stayed}
use Rattle.fusion_core.specs.Machines.{CanDo, MayFinish}
use Rattle.fusion_core.proofs.EndLemmas.{opening_whole}
use Rattle.fusion_core.proofs.HandLemmas.{finish_can}
use Rattle.fusion_core.proofs.JobLemmas.{check_finds, enter_finds, fresh_finds, leave_finds, stay_finds}
use Rattle.fusion_core.proofs.ResultLemmas.{free_held}
use Rattle.fusion_core.proofs.RunLemmas.{after_event-start}
use Rattle.fusion_core.proofs.StepLemmas.{hand_claimed, step_keeps}
use Rattle.fusion_core.proofs.SumLemmas.{count_of-take-le, same_test, sum_by-set, term_le, zip_none, zip_set, zip_term_le}

-- ---- slots that are put

read_at : (l : List Slot) (k : ℕ) (s : Slot) → k < length l → slot_at l k ≡ s → slice_get l k ≡ Some s
read_at l k s lt is = slice_get-get_or l k Away lt ∙ ap (λ (x : Slot). Some x) is

module _ (h : Slot → ℕ) where
  one_put : (l : List Slot) (k : ℕ) (u x : Slot) → k < length l → slot_at l k ≡ u → sum_by h (set l k x) + h u ≡ sum_by h l + h x
  one_put l k u x lt is = sum_by-set h l k u x (read_at l k u lt is)

  two_put : (l : List Slot) (a b : ℕ) (u v x y : Slot) → a < length l → b < length l → b ≢ a → slot_at l a ≡ u → slot_at l b ≡ v
      → sum_by h (set (set l a x) b y) + h u + h v ≡ sum_by h l + h x + h y
  two_put l a b u v x y lt-a lt-b ne is-a is-b =
      let first = one_put l a u x lt-a is-a in
      let there : slot_at (set l a x) b ≡ v = get_or-set_other l a b x Away (λ e. ne e) ∙ is-b in
      let second = one_put (set l a x) b v y (subst (λ (n : ℕ). b < n) (sym (length-set l a x)) lt-b) there in
      omega arith

-- ---- the jobs that are done

abbrev one : Bool → ℕ
one b = cond b 1 0

and_false : (b : Bool) → b && false ≡ false
and_false true = refl
and_false false = refl

and_true : (b : Bool) → b && true ≡ b
and_true true = refl
and_true false = refl

-- 1 where a job that makes a block of a key is done
abbrev made : BlockKey → Job × Option Done → ℕ
made key p = one (is_fresh_of key p.0 && is_some p.1)

made_le : (key : BlockKey) (jobs : List Job) (ds : List (Option Done)) → made_count key jobs ds ≤ count_by (is_fresh_of key) jobs
made_le key [] ds = omega arith
made_le key (x ∷ xs) [] = omega arith
made_le key (x ∷ xs) (y ∷ ys) =
    omega (arith, made_le key xs ys, sum_by-cons (made key) (x, y) (zip xs ys), sum_by-cons (λ z. one (is_fresh_of key z)) x xs, and_le (is_fresh_of key x) (is_some y))
  where
    and_le : (a b : Bool) → one (a && b) ≤ one a
    and_le true true = omega arith
    and_le true false = omega arith
    and_le false b = omega arith

made_one : (key : BlockKey) (jobs : List Job) (ds : List (Option Done)) (j : ℕ) → j < length jobs → length ds ≡ length jobs
    → is_fresh_of key (get_or jobs j (Check 0)) ≡ true → is_some (done_at ds j) ≡ true → 1 ≤ made_count key jobs ds
made_one key jobs ds j lt e f d =
    let is : made key (get_or jobs j (Check 0), done_at ds j) ≡ 1 = ap one (λ i. f i && d i) in
    let le = zip_term_le (made key) jobs ds j (Check 0) None lt e in omega arith

-- ---- a job that is done moves no key but makes one

abbrev at : BlockKey → Slot → ℕ
at key s = one (is_place_of key s)

-- the cell that was drawn for a job is free
free_drawn : (m : BoardState) (w j c : ℕ) → IsWhole m → slice_get m.hands w ≡ Some (Works j (Some c)) → (block : List Voxel) × (first_at m.start c ≡ OfCell (Free block))
free_drawn m w j c o hand =
    let drawn-here = term_le (has_drawn c) m.hands w (Works j (Some c)) hand in let t = same_test c c refl in
    let all = o.drawn_once c in let le = count_of-take-le c m.cursor m.start.free in
    free_held m.start.cells m.start.docks c (o.ready.free c (omega arith))

done_places : (m : BoardState) (w j : ℕ) (job : Job) (got : Option ℕ) (key : BlockKey) → IsWhole m → MayFinish m w j got
    → CanDo m.start m.start.work (length m.start.cells) m.slots job got
    → place_count key (put m.slots (left m.start job got)) ≡ place_count key m.slots + one (is_fresh_of key job)
done_places m w j (Fresh k) None key o may can = absurd (false≢true (sym can.wants))
done_places m w j (Fresh k) (Some c) key o may can =
    let st : Start = m.start in let n : ℕ = length st.cells in let f = fresh_finds st st.work n m.slots k (Some c) can in
    let free = free_drawn m w j c o may.hand in
    let was : at key (first_at st c) ≡ 0 = ap (at key) free.1 in
    let now : at key (freshened st.work k (first_at st c)) ≡ one (same_key k key) = ap (λ (s : Slot). at key (freshened st.work k s)) free.1 in
    omega (arith, one_put (at key) m.slots c (first_at st c) (freshened st.work k (first_at st c)) f.0 f.1)
done_places m w j (Stay cell) got key o may can =
    let st : Start = m.start in let n : ℕ = length st.cells in let f = stay_finds st st.work n m.slots cell got can in
    let own = can.suited.1 in
    let was : at key (first_at st cell) ≡ one (same_key own.0 key) = ap (at key) own.2 in
    let now : at key (stayed st.work (first_at st cell)) ≡ one (same_key own.0 key) = ap (λ (s : Slot). at key (stayed st.work s)) own.2 in
    omega (arith, one_put (at key) m.slots cell (first_at st cell) (stayed st.work (first_at st cell)) f.0 f.1)
done_places m w j (Enter dock) None key o may can = absurd (false≢true (sym can.wants))
done_places m w j (Enter dock) (Some c) key o may can =
    let st : Start = m.start in let n : ℕ = length st.cells in let f = enter_finds st st.work n m.slots dock (Some c) can in
    let free = free_drawn m w j c o may.hand in let full = can.suited in
    let a : Slot = first_at st c in let b : Slot = first_at st (dock_slot st dock) in
    let b-is : b ≡ OfDock (Full full.0 full.1) = full.2 in
    let was-a : at key a ≡ 0 = ap (at key) free.1 in
    let was-b : at key b ≡ one (same_key full.0 key) = ap (at key) b-is in
    let now-a : at key (entered st.work a b).0 ≡ one (same_key full.0 key) = λ i. at key (entered st.work (free.1 i) (b-is i)).0 in
    let now-b : at key (entered st.work a b).1 ≡ 0 = λ i. at key (entered st.work (free.1 i) (b-is i)).1 in
    omega (arith, two_put (at key) m.slots c (dock_slot st dock) a b (entered st.work a b).0 (entered st.work a b).1 f.0.0 f.0.1 f.1 f.2 f.3)
done_places m w j (Leave cell dock) got key o may can =
    let st : Start = m.start in let n : ℕ = length st.cells in let f = leave_finds st st.work n m.slots cell dock got can in
    let own = can.suited.1 in let bare = can.suited.2 in
    let a : Slot = first_at st cell in let b : Slot = first_at st (dock_slot st dock) in
    let was-a : at key a ≡ one (same_key own.0 key) = ap (at key) own.2 in
    let was-b : at key b ≡ 0 = ap (at key) bare.1 in
    let now-a : at key (departed a b).0 ≡ 0 = λ i. at key (departed (own.2 i) (bare.1 i)).0 in
    let now-b : at key (departed a b).1 ≡ one (same_key own.0 key) = λ i. at key (departed (own.2 i) (bare.1 i)).1 in
    omega (arith, two_put (at key) m.slots (dock_slot st dock) cell b a (departed a b).1 (departed a b).0 f.0.1 f.0.0 f.1 f.3 f.2)
done_places m w j (Check cell) got key o may can =
    let st : Start = m.start in let n : ℕ = length st.cells in let f = check_finds st st.work n m.slots cell got can in
    omega (arith, one_put (at key) m.slots cell (first_at st cell) (first_at st cell) f.0 f.1)

-- ---- every list of events

abbrev IsKept : BlockKey → BoardState → Type 0
IsKept key m = place_count key m.slots ≡ place_count key (slots_of m.start.cells m.start.docks) + made_count key m.start.jobs m.done

finished_kept : (m : BoardState) (w j : ℕ) (got : Option ℕ) (key : BlockKey) → IsWhole m → MayFinish m w j got → IsKept key m → IsKept key (finished m w j got)
finished_kept m w j got key o may kept =
    let st : Start = m.start in let job : Job = job_at st j in
    let h = hand_claimed m w j got o may.hand in
    let moved = done_places m w j job got key o may (finish_can m w j (length st.cells) got st.work o may refl refl) in
    let made-set = zip_set (made key) st.jobs m.done j (Check 0) None (Some (said st job got)) h.2 o.done_count in
    let before : one (is_fresh_of key job && is_some (done_at m.done j)) ≡ 0 = ap (λ (d : Option Done). one (is_fresh_of key job && is_some d)) h.1 ∙ ap one (and_false (is_fresh_of key job)) in
    let after : one (is_fresh_of key job && true) ≡ one (is_fresh_of key job) = ap one (and_true (is_fresh_of key job)) in
    omega arith

draw_kept : (m : BoardState) (w : ℕ) (h : Option Hand) (key : BlockKey) → IsKept key m → IsKept key (after_draw m w h)
draw_kept m w None key kept = kept
draw_kept m w (Some Idle) key kept = kept
draw_kept m w (Some (Works j got)) key kept = kept

finish_kept : (m : BoardState) (w : ℕ) (h : Option Hand) (key : BlockKey) → IsWhole m → slice_get m.hands w ≡ h → may_finish m.start h ≡ true → IsKept key m → IsKept key (after_finish m w h)
finish_kept m w None key o hand may kept = kept
finish_kept m w (Some Idle) key o hand may kept = kept
finish_kept m w (Some (Works j got)) key o hand may kept = finished_kept m w j got key o (record { may = ap (may_finish m.start) hand ∙ may; hand = hand }) kept

event_kept : (m : BoardState) (e : Event) (key : BlockKey) → IsWhole m → allowed m e ≡ true → IsKept key m → IsKept key (after_event m e)
event_kept m (Claim w) key o may kept = kept
event_kept m (Draw w) key o may kept = draw_kept m w (slice_get m.hands w) key kept
event_kept m (Finish w) key o may kept = finish_kept m w (slice_get m.hands w) key o refl may kept

runs_kept : (events : List Event) (old new : BoardState) (key : BlockKey) → IsWhole old → Runs old events new → IsKept key old
    → (new.start ≡ old.start) × IsWhole new × IsKept key new
runs_kept [] old new key o r kept = (ap (λ (m : BoardState). m.start) r, subst IsWhole (sym r) o, subst (IsKept key) (sym r) kept)
runs_kept (e ∷ events) old new key o r kept =
    let rest = runs_kept events (after_event old e) new key (step_keeps old e o r.0) r.1 (event_kept old e key o r.0 kept) in
    (rest.0 ∙ after_event-start old e, rest.1, rest.2)

opening_kept : (st : Start) (workers : ℕ) (key : BlockKey) → IsKept key (opening st workers)
opening_kept st workers key = omega (arith, zip_none (made key) st.jobs (length st.jobs) None (λ job. ap one (and_false (is_fresh_of key job))))

pub keeps_places : KeepsPlaces
keeps_places st workers events m key ready runs =
    let r = runs_kept events (opening st workers) m key (opening_whole st workers ready) runs (opening_kept st workers key) in
    subst (λ (s : Start). place_count key m.slots ≡ place_count key (slots_of s.cells s.docks) + made_count key s.jobs m.done) r.0 r.2

pub keys_lie_once : KeysLieOnce
keys_lie_once st workers events m ready distinct runs =
    let kept : (key : BlockKey) → place_count key m.slots ≡ place_count key (slots_of st.cells st.docks) + made_count key st.jobs m.done = λ key. keeps_places st workers events m key ready runs in
    let few : (key : BlockKey) → place_count key (slots_of st.cells st.docks) + made_count key st.jobs m.done ≤ 1 = λ key. let a = made_le key st.jobs m.done in let b = distinct key in omega arith in
    record {
      most = λ key. let a = kept key in let b = few key in omega arith;
      kept = λ key more. let a = kept key in let b = few key in omega arith;
      made = λ j key lt is done. let a = kept key in let b = few key in
          let r = runs_kept events (opening st workers) m key (opening_whole st workers ready) runs (opening_kept st workers key) in
          let count : length m.done ≡ length st.jobs = r.1.done_count ∙ ap (λ (s : Start). length s.jobs) r.0 in
          let some = made_one key st.jobs m.done j lt count (ap (is_fresh_of key) is ∙ key_itself key) done in omega arith;
    }
