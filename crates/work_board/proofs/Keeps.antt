-- Each step on the table of a board keeps its rule, and is a step of the machine.
use Rattle.std.proofs.Common.{◌≡◌, ℕ, suc, ◌+◌, ◌%◌, ◌^◌, ◌<◌, ◌≤◌, List, [], ◌∷◌, ◌++◌, length, set, sym, refl, ap, arith, map, get_or, subst, ◌∙◌, ⊎_elim, inl, inr, length-set, Bool, true, false, cond, min, get_or-set_same, get_or-set_other}
use Rattle.std.specs.Prelude.{Option, None, Some, is_some, IfSome, slice_get, ◌&&◌, nat_lt, not, sum_by}
use Rattle.std.proofs.lemmas.Bool.{false≢true}
use Rattle.std.proofs.lemmas.List.{map-set}
use Rattle.std.proofs.lemmas.List.Sums.{sum_by-cons}
use Rattle.std.proofs.lemmas.Option.{slice_get-get_or}
use mathlib.Core.Logic.{dite}
use mathlib.Core.Option.{none, some}
use native.Mathlib.Decide.{ℕ_discrete, dec_le}
use native.Mathlib.Nat.{mod-eq_of_lt}
use lib.ListN.{get_elem?}
use Rattle.atomic_table.specs.Table.{State, step, keeps, takes}
use Rattle.atomic_table.proofs.Lists.{set_else, set_again}
use Rattle.fusion_core.specs.declared.board.done.Done.{Done}
use Rattle.fusion_core.specs.declared.board.hand.Hand.{Hand}
use Rattle.fusion_core.specs.declared.board.hand.Hand.TheVariants.{Idle, Works}
use Rattle.fusion_core.specs.declared.board.event.Event.TheVariants.{Draw, Finish}
use Rattle.fusion_core.specs.declared.board.job.Job.TheVariants.{Check}
use Rattle.fusion_core.specs.declared.board.slot.Slot.{Slot}
use Rattle.fusion_core.specs.BoardStates.{BoardState, IsWhole, after_draw, after_finish, done_at, has_all, holds, is_done, is_idle, may_draw, may_finish, put}
use Rattle.fusion_core.specs.Counts.{count_of}
use Rattle.fusion_core.specs.Jobs.{Start, draws, first_at, job_at, left, names, said}
use Rattle.fusion_core.specs.Machines.{state_of}
use Rattle.fusion_core.proofs.ReadyLemmas.{apart}
use Rattle.fusion_core.proofs.SlotLemmas.{keys, keys-left, put-length}
use Rattle.fusion_core.proofs.StepLemmas.{claim_keeps, draw_keeps, finish_keeps, hand_claimed}
use Rattle.fusion_core.proofs.SumLemmas.{count_of-append, count_of-cons, item_le, no_test, same_test, some_same, sum_by-set}
use Rattle.fusion_core.proofs.TouchSums.{at_map, at_set, sum-set, term_le}
use Rattle.work_board.specs.declared.view.View.{View}
use Rattle.work_board.specs.Events.{ByClaim, Goes, IsEvent}
use Rattle.work_board.specs.Rule.{FitsWord, IsPast, Shows, code, shown, spent, view}
use Rattle.work_board.specs.Steps.{claiming, drawing, finishing, held}
use Rattle.work_board.proofs.Acts.{take_all, give_all, carried-take, length-take_all, else-take, valid-take, carried-give, valid-give, length-give, given_home, keys-firsts, home-firsts}
use Rattle.work_board.proofs.Counting.{free_short, got_at}
use Rattle.work_board.proofs.Waiting.{Waits, free_waits, named_waits}

abbrev pub hand_of : View → Hand
hand_of v = v.hand

spent_le : (v : View) → spent v ≤ v.part
spent_le v = grind arith

sum_le : {A : Type 0} (f g : A → ℕ) → ((a : A) → f a ≤ g a) → (l : List A) → sum_by f l ≤ sum_by g l
sum_le f g h [] = omega arith
sum_le f g h (x ∷ xs) = omega (arith, h x, sum_le f g h xs, sum_by-cons f x xs, sum_by-cons g x xs)

-- the machine with another number and other hands that are the same
pub same_whole : (st : Start) (slots : List Slot) (ds : List (Option Done)) (cursor a b : ℕ) (hs ks : List Hand) → a ≡ b → hs ≡ ks
    → IsWhole (state_of st slots a cursor hs ds) → IsWhole (state_of st slots b cursor ks ds)
same_whole st slots ds cursor a b hs ks p q h =
    let P : ℕ → List Hand → Type 0 = λ n l. IsWhole (state_of st slots n cursor l ds) in
    subst (λ (l : List Hand). P b l) q (subst (λ (n : ℕ). P n hs) p h)

pub same_state : (st : Start) (slots : List Slot) (ds : List (Option Done)) (cursor a b : ℕ) (hs ks : List Hand) → a ≡ b → hs ≡ ks → state_of st slots a cursor hs ds ≡ state_of st slots b cursor ks ds
same_state st slots ds cursor a b hs ks p q = λ i. state_of st slots (p i) cursor (q i) ds

both_true : (b c : Bool) → b ≡ true → c ≡ true → b && c ≡ true
both_true true true p q = refl
both_true true false p q = absurd (false≢true q)
both_true false c p q = absurd (false≢true p)

yes_below : (x n : ℕ) → x < n → nat_lt x n ≡ true
yes_below x n h = grind (arith, h)

what_has : (st : Start) (j : ℕ) (got : Option ℕ) → draws (job_at st j) ≡ is_some got → has_all st j got ≡ true
what_has st j None e = ap not e
what_has st j (Some c) e = e

if_more : {P Q : ℕ → Type 0} (o : Option ℕ) → ((d : ℕ) → P d → Q d) → IfSome o P → IfSome o Q
if_more None f h = h
if_more (Some d) f h = f d h

if_some : {P : ℕ → Type 0} (o : Option ℕ) → is_some o ≡ true → IfSome o P → (d : ℕ) × P d
if_some None e h = absurd (false≢true e)
if_some (Some d) e h = (d, h)

min_low : (x n : ℕ) → x < n → min x n ≡ x
min_low x n h = omega arith

pub min_high : (x y n : ℕ) → n ≤ x → n ≤ y → min x n ≡ min y n
min_high x y n h i = omega arith

min_more : (x n : ℕ) → x < n → min x n + 1 ≡ min (x + 1) n
min_more x n h = omega arith

-- what a seat may spend does not hang on its hand and its list
spent_same : (st : Start) (part : ℕ) (h k : Hand) (did e : List ℕ) (mark : Option ℕ) (ends : ℕ) → spent (view st part h did mark ends) ≡ spent (view st part k e mark ends)
spent_same st part h k did e mark ends = refl

-- what a marked seat may spend, or the one more that another one draws, is at most its part
spends : (st : Start) (part : ℕ) (mark : Option ℕ) (h : Hand) (did : List ℕ) (ends : ℕ) → 0 < part → cond (is_some mark) 0 1 + spent (view st part h did mark ends) ≤ part
spends st part None h did ends p = p
spends st part (Some d) h did ends p = omega arith

unmarked : (mark : Option ℕ) → (is_some mark ≡ true → ⊥) → ◌≡◌ {A = ℕ} (cond (is_some mark) 0 1) 1
unmarked None h = refl
unmarked (Some d) h = absurd (h refl)

pub is_done_le : (d : Option Done) → is_done d ≤ 1
is_done_le None = omega arith
is_done_le (Some d) = omega arith

past_more : (st : Start) (counter q d : ℕ) → IsPast st counter d → IsPast st (counter + q) d
past_more st counter q d h = (h.0, (let g = h.1 in omega arith))

module _ (st : Start) (seats : ℕ) where
  counter_low : (s : State Slot View) → (o : Shows st seats s) → o.counter + 1 < 2 ^ 64
  counter_low s o = let fit = sum_le spent (λ u. u.part) spent_le s.views in omega (arith, o.counted, o.parts, o.few, fit, o.whole.ready.few_jobs)

  -- ---- a claim

  pub claim_goes : (n id part : ℕ) (did : List ℕ) (mark : Option ℕ) (ends : ℕ) → 0 < part
      → (s : State Slot View) (o : Shows st seats s) → get_elem? s.views id ≡ some (view st part Idle did mark ends)
      → Goes st seats id 0 ((get_or s.words 0 0 + cond (is_some mark) 0 1) % 2 ^ 64) (view st part Idle did mark ends, []) s o (claiming (step n 0 (cond (is_some mark) 0 1) 0 none) (view st part Idle did mark ends, []) (get_or s.words 0 0)) (ByClaim id)
  claim_goes n id part did mark ends some-part s o me =
      let v : View = view st part Idle did mark ends in let r : ℕ = get_or s.words 0 0 in let k : ℕ = length st.jobs in let q : ℕ = cond (is_some mark) 0 1 in
      let x-is : r ≡ o.counter = ap (λ (l : List ℕ). get_or l 0 0) o.words in
      let small : q ≤ 1 = grind arith in
      let low : r + q < 2 ^ 64 = let c = counter_low s o in omega arith in
      let y-is : (r + q) % 2 ^ 64 ≡ o.counter + q = mod-eq_of_lt low ∙ ap (λ (z : ℕ). z + q) x-is in
      let words-are : set s.words 0 ((r + q) % 2 ^ 64) ≡ (o.counter + q) ∷ o.cursor ∷ map code o.done = ap (λ (l : List ℕ). set l 0 ((r + q) % 2 ^ 64)) o.words ∙ ap (λ (z : ℕ). z ∷ o.cursor ∷ map code o.done) y-is in
      let hands : List Hand = map hand_of s.views in
      let there : get_elem? hands id ≡ some Idle = at_map hand_of s.views id v me in
      let at : slice_get hands id ≡ Some Idle = got_at hands id Idle there in
      let known : is_some mark ≡ true → k ≤ r = λ e. let m = if_some mark e (o.marked id v me) in let h = m.1.1 in omega arith in
      dite (dec_le k r)
      (λ is-past. let w : View = view st part Idle did (Some r) (suc ends) in
      let hands-are : map hand_of (set s.views id w) ≡ hands = map-set hand_of s.views id w ∙ set_again hands id Idle there in
      record {
        view = w;
        act = keeps;
        valid = tt;
        rule = record {
          slots = o.slots;
          counter = o.counter + q;
          cursor = o.cursor;
          done = o.done;
          whole = same_whole st o.slots o.done o.cursor (min o.counter k) (min (o.counter + q) k) hands (map hand_of (set s.views id w)) (min_high o.counter (o.counter + q) k (omega arith) (omega arith)) (sym hands-are) o.whole;
          words = words-are;
          fits = o.fits;
          homes = o.homes;
          at_home = λ i lt none-away. o.at_home i lt (ap (sum_by (holds st i)) (sym hands-are) ∙ none-away);
          few = o.few;
          parts = omega (arith, sum-set (λ u. u.part) s.views id v w me, o.parts);
          idle = λ i u e none-left. ⊎_elim (λ t. absurd (let p : part ≡ u.part = ap (λ (z : View). z.part) t.1 in omega arith)) (λ t. o.idle i u t.1 none-left) (at_set s.views id i w u e);
          counted = omega (arith, o.counted, sum-set spent s.views id v w me, spends st part mark Idle did ends some-part);
          marked = λ i u e. ⊎_elim (λ t. subst (λ (z : View). IfSome z.mark (IsPast st (o.counter + q))) t.1 (is-past, omega arith))
              (λ t. if_more u.mark (past_more st o.counter q) (o.marked i u t.1)) (at_set s.views id i w u e);
          did = λ j. omega (arith, sum-set (λ u. count_of j u.did) s.views id v w me, o.did j);
        };
        told = ((λ l. absurd (omega arith)), (λ _. refl), (λ _. is-past));
        moved = ((λ l. absurd (omega arith)), λ _. same_state st o.slots o.done o.cursor _ _ _ _ (sym (min_high o.counter (o.counter + q) k (omega arith) (omega arith))) hands-are);
      })
      (λ not-past. let before : r < k = omega arith in
      let w : View = view st part (Works r None) did mark ends in
      let one : q ≡ 1 = unmarked mark (λ e. absurd (let h = known e in omega arith)) in
      let ps : List (ℕ × Slot) = held st r None in let ns : List ℕ = names (length st.cells) (job_at st r) in
      let m : BoardState = shown st o.slots o.counter o.cursor o.done s.views in
      let next-is : min o.counter k ≡ r = min_low o.counter k (omega arith) ∙ sym x-is in
      let near : min o.counter k < k = omega arith in
      let waits : (i : ℕ) → 0 < count_of i ns → Waits m i = λ i. subst (λ (z : ℕ). 0 < count_of i (names (length st.cells) (job_at st z)) → Waits m i) next-is (named_waits m i o.whole near) in
      let homes-are : (i : ℕ) → 0 < count_of i ns → get_elem? s.homes i ≡ some (some (first_at st i)) = λ i more. let u = waits i more in o.at_home i u.inside u.home ∙ ap (λ (z : Slot). some (some z)) u.same in
      let once : (i : ℕ) → count_of i (keys ps) ≤ 1 = λ i. subst (λ (l : List ℕ). count_of i l ≤ 1) (sym (keys-firsts st ns)) (let a = apart st o.whole.ready i in let t = item_le (λ job. count_of i (names (length st.cells) job)) st.jobs r (Check 0) before in omega arith) in
      let hands-are : set hands id (Works (min o.counter k) None) ≡ map hand_of (set s.views id w) = ap (λ (z : ℕ). set hands id (Works z None)) next-is ∙ sym (map-set hand_of s.views id w) in
      let next-after : min o.counter k + 1 ≡ min (o.counter + q) k = min_more o.counter k (omega arith) ∙ ap (λ (z : ℕ). min (o.counter + z) k) (sym one) in
      record {
        view = w;
        act = take_all ps;
        valid = valid-take s.homes ps once (home-firsts st s.homes ns homes-are);
        rule = record {
          slots = o.slots;
          counter = o.counter + q;
          cursor = o.cursor;
          done = o.done;
          whole = same_whole st o.slots o.done o.cursor (min o.counter k + 1) (min (o.counter + q) k) (set hands id (Works (min o.counter k) None)) (map hand_of (set s.views id w)) next-after hands-are (claim_keeps m id o.whole at near);
          words = words-are;
          fits = o.fits;
          homes = length-take_all s.homes ps ∙ o.homes;
          at_home = λ i lt none-away.
              let sum = sum_by-set (holds st i) hands id Idle (Works r None) at in
              let now : sum_by (holds st i) (set hands id (Works r None)) ≡ 0 = ap (sum_by (holds st i)) (sym (map-set hand_of s.views id w)) ∙ none-away in
              else-take s.homes ps i (ap (count_of i) (keys-firsts st ns) ∙ (omega arith)) ∙ o.at_home i lt (omega arith);
          few = o.few;
          parts = omega (arith, sum-set (λ u. u.part) s.views id v w me, o.parts);
          idle = λ i u e none-left. ⊎_elim (λ t. absurd (let p : part ≡ u.part = ap (λ (z : View). z.part) t.1 in omega arith)) (λ t. o.idle i u t.1 none-left) (at_set s.views id i w u e);
          counted = omega (arith, o.counted, sum-set spent s.views id v w me, spent_same st part Idle (Works r None) did did mark ends);
          marked = λ i u e. ⊎_elim (λ t. subst (λ (z : View). IfSome z.mark (IsPast st (o.counter + q))) t.1 (if_more mark (past_more st o.counter q) (o.marked id v me)))
              (λ t. if_more u.mark (past_more st o.counter q) (o.marked i u t.1)) (at_set s.views id i w u e);
          did = λ j. omega (arith, sum-set (λ u. count_of j u.did) s.views id v w me, o.did j);
        };
        told = ((λ _. (ap (λ (l : List (ℕ × Slot)). (w, l)) (carried-take ps), o.whole.ready.suited r before)), (λ l. absurd (omega arith)), known);
        moved = (
          (λ _. (
            both_true (is_idle (slice_get hands id)) (nat_lt (min o.counter k) k) (ap is_idle at) (yes_below (min o.counter k) k near),
            same_state st o.slots o.done o.cursor _ _ _ _ (sym next-after) (sym hands-are),
          )),
          λ l. absurd (omega arith),
        );
      })

  -- ---- a draw

  pub draw_goes : (n id part j : ℕ) (did : List ℕ) (mark : Option ℕ) (ends : ℕ) → 0 < part → draws (job_at st j) ≡ true
      → (s : State Slot View) (o : Shows st seats s) → get_elem? s.views id ≡ some (view st part (Works j None) did mark ends)
      → Goes st seats id 1 ((get_or s.words 1 0 + 1) % 2 ^ 64) (view st part (Works j None) did mark ends, held st j None) s o (drawing (step n 1 1 0 none) (view st part (Works j None) did mark ends, held st j None) (get_or s.words 1 0)) (IsEvent (Draw id))
  draw_goes n id part j did mark ends some-part wants s o me =
      let v : View = view st part (Works j None) did mark ends in let r : ℕ = get_or s.words 1 0 in let c : ℕ = get_or st.free r 0 in
      let w : View = view st part (Works j (Some c)) did mark ends in
      let x-is : r ≡ o.cursor = ap (λ (l : List ℕ). get_or l 1 0) o.words in
      let m : BoardState = shown st o.slots o.counter o.cursor o.done s.views in
      let hands : List Hand = map hand_of s.views in
      let at : slice_get hands id ≡ Some (Works j None) = got_at hands id (Works j None) (at_map hand_of s.views id v me) in
      let drawn = draw_keeps m id j o.whole at wants in
      let low : r + 1 < 2 ^ 64 = let lt = drawn.0 in let short = free_short st o.whole.ready in omega (arith, o.whole.ready.few_cells) in
      let y-is : (r + 1) % 2 ^ 64 ≡ o.cursor + 1 = mod-eq_of_lt low ∙ ap (λ (z : ℕ). z + 1) x-is in
      let words-are : set s.words 1 ((r + 1) % 2 ^ 64) ≡ o.counter ∷ (o.cursor + 1) ∷ map code o.done = ap (λ (l : List ℕ). set l 1 ((r + 1) % 2 ^ 64)) o.words ∙ ap (λ (z : ℕ). o.counter ∷ z ∷ map code o.done) y-is in
      let inside-j = (hand_claimed m id j None o.whole at).2 in
      let u : Waits m c = subst (λ (z : ℕ). Waits m (get_or st.free z 0)) (sym x-is) (free_waits m o.whole drawn.0 j inside-j) in
      let home : get_elem? s.homes c ≡ some (some (first_at st c)) = o.at_home c u.inside u.home ∙ ap (λ (z : Slot). some (some z)) u.same in
      let hands-are : set hands id (Works j (slice_get st.free o.cursor)) ≡ map hand_of (set s.views id w) =
      ap (λ (z : Option ℕ). set hands id (Works j z)) (slice_get-get_or st.free o.cursor 0 drawn.0 ∙ ap (λ (z : ℕ). Some (get_or st.free z 0)) (sym x-is)) ∙ sym (map-set hand_of s.views id w) in
      record {
        view = w;
        act = takes c (first_at st c);
        valid = home;
        rule = record {
          slots = o.slots;
          counter = o.counter;
          cursor = o.cursor + 1;
          done = o.done;
          whole = same_whole st o.slots o.done (o.cursor + 1) (min o.counter (length st.jobs)) (min o.counter (length st.jobs)) (set hands id (Works j (slice_get st.free o.cursor))) (map hand_of (set s.views id w)) refl hands-are drawn.1;
          words = words-are;
          fits = o.fits;
          homes = length-set s.homes c none ∙ o.homes;
          at_home = λ i lt none-away.
              let sum = sum_by-set (holds st i) hands id (Works j None) (Works j (Some c)) at in
              let now : sum_by (holds st i) (set hands id (Works j (Some c))) ≡ 0 = ap (sum_by (holds st i)) (sym (map-set hand_of s.views id w)) ∙ none-away in
              let more = count_of-cons i c (names (length st.cells) (job_at st j)) in
              set_else s.homes c i none (λ e. absurd (let t = same_test c i (sym e) in omega arith)) ∙ o.at_home i lt (omega arith);
          few = o.few;
          parts = omega (arith, sum-set (λ z. z.part) s.views id v w me, o.parts);
          idle = λ i z e none-left. ⊎_elim (λ t. absurd (let p : part ≡ z.part = ap (λ (y : View). y.part) t.1 in omega arith)) (λ t. o.idle i z t.1 none-left) (at_set s.views id i w z e);
          counted = omega (arith, o.counted, sum-set spent s.views id v w me, spent_same st part (Works j None) (Works j (Some c)) did did mark ends);
          marked = λ i z e. ⊎_elim (λ t. subst (λ (y : View). IfSome y.mark (IsPast st o.counter)) t.1 (o.marked id v me)) (λ t. o.marked i z t.1) (at_set s.views id i w z e);
          did = λ i. omega (arith, sum-set (λ z. count_of i z.did) s.views id v w me, o.did i);
        };
        told = (subst (λ (z : ℕ). z < length st.free) (sym x-is) drawn.0, refl);
        moved = (
          ap (may_draw st) at ∙ wants,
          same_state st o.slots o.done (o.cursor + 1) _ _ _ _ refl (sym hands-are) ∙ sym (ap (after_draw m id) at),
        );
      }

  -- ---- the end of a job

  pub finish_goes : (n id part j word : ℕ) (got : Option ℕ) (did : List ℕ) (mark : Option ℕ) (ends : ℕ) → 0 < part → draws (job_at st j) ≡ is_some got → word ≡ j + 2 → FitsWord (said st (job_at st j) got)
      → (s : State Slot View) (o : Shows st seats s) → get_elem? s.views id ≡ some (view st part (Works j got) did mark ends)
      → Goes st seats id word (code (Some (said st (job_at st j) got))) (view st part (Works j got) did mark ends, left st (job_at st j) got) s o
      (finishing (step n word (code (Some (said st (job_at st j) got))) 0 none) (view st part (Works j got) did mark ends, left st (job_at st j) got) (code (Some (said st (job_at st j) got)))) (IsEvent (Finish id))
  finish_goes n id part j word got did mark ends some-part wants word-is fits-word s o me =
      let v : View = view st part (Works j got) did mark ends in let w : View = view st part Idle (did ++ j ∷ []) mark ends in
      let ps : List (ℕ × Slot) = left st (job_at st j) got in let d : Done = said st (job_at st j) got in
      let m : BoardState = shown st o.slots o.counter o.cursor o.done s.views in
      let hands : List Hand = map hand_of s.views in
      let at : slice_get hands id ≡ Some (Works j got) = got_at hands id (Works j got) (at_map hand_of s.views id v me) in
      let h = hand_claimed m id j got o.whole at in
      let whole = finish_keeps m id j got o.whole at wants in
      let ds : List (Option Done) = set o.done j (Some d) in
      let inside-done : j < length o.done = let q = o.whole.done_count in let p = h.2 in omega arith in
      let word-suc : word ≡ suc (suc j) = omega arith in
      let words-are : set s.words word (code (Some d)) ≡ o.counter ∷ o.cursor ∷ map code ds =
      ap (λ (l : List ℕ). set l word (code (Some d))) o.words ∙ ap (λ (z : ℕ). set (o.counter ∷ o.cursor ∷ map code o.done) z (code (Some d))) word-suc
      ∙ ap (λ (l : List ℕ). o.counter ∷ o.cursor ∷ l) (sym (map-set code o.done j (Some d))) in
      let hands-are : set hands id Idle ≡ map hand_of (set s.views id w) = sym (map-set hand_of s.views id w) in
      let at-keys = keys-left st (job_at st j) got wants in
      let longer : (i : ℕ) → count_of i (did ++ j ∷ []) ≡ count_of i did + count_of i (j ∷ []) = λ i. count_of-append i did (j ∷ []) in
      let same_one : (i : ℕ) → i ≡ j → count_of i (j ∷ []) ≡ 1 = λ i e. count_of-cons i j [] ∙ (let t = same_test j i (sym e) in omega arith) in
      let other_one : (i : ℕ) → (i ≡ j → ⊥) → count_of i (j ∷ []) ≡ 0 = λ i ne. count_of-cons i j [] ∙ (let t = no_test j i (λ e. ne (sym e)) in omega arith) in
      let did_once : (i : ℕ) → count_of i (did ++ j ∷ []) ≤ 1 = λ i. dite (ℕ_discrete i j)
      (λ e. let t = term_le (λ z. count_of i z.did) s.views id v me in omega (arith, longer i, same_one i e, o.did i, ap is_done (ap (done_at o.done) e ∙ h.1)))
      (λ ne. let t = term_le (λ z. count_of i z.did) s.views id v me in let u = is_done_le (done_at o.done i) in omega (arith, longer i, other_one i ne, o.did i)) in
      record {
        view = w;
        act = give_all ps;
        valid = valid-give s.homes ps;
        rule = record {
          slots = put o.slots ps;
          counter = o.counter;
          cursor = o.cursor;
          done = ds;
          whole = same_whole st (put o.slots ps) ds o.cursor (min o.counter (length st.jobs)) (min o.counter (length st.jobs)) (set hands id Idle) (map hand_of (set s.views id w)) refl hands-are whole;
          words = words-are;
          fits = λ i e is. dite (ℕ_discrete i j)
              (λ same. subst FitsWord (some_same d e (sym (get_or-set_same o.done j (Some d) None inside-done) ∙ ap (done_at ds) (sym same) ∙ is)) fits-word)
              (λ ne. o.fits i e (sym (get_or-set_other o.done j i (Some d) None ne) ∙ is));
          homes = length-give s.homes ps ∙ o.homes ∙ sym (put-length o.slots ps);
          at_home = λ i lt none-away.
              let sum = sum_by-set (holds st i) hands id (Works j got) Idle at in
              let now : sum_by (holds st i) (set hands id Idle) ≡ 0 = ap (sum_by (holds st i)) hands-are ∙ none-away in
              let near : i < length o.slots = subst (λ (z : ℕ). i < z) (put-length o.slots ps) lt in
              let near' : i < length s.homes = subst (λ (z : ℕ). i < z) (sym o.homes) near in
              let count : count_of i (keys ps) ≡ holds st i (Works j got) = ap (count_of i) at-keys in
              given_home s.homes o.slots ps i (dite (dec_le 1 (count_of i (keys ps))) (λ more. inr (omega arith)) (λ no. inl (o.at_home i near (omega arith)))) near' near;
          few = o.few;
          parts = omega (arith, sum-set (λ z. z.part) s.views id v w me, o.parts);
          idle = λ i z e none-left. ⊎_elim (λ t. absurd (let p : part ≡ z.part = ap (λ (y : View). y.part) t.1 in omega arith)) (λ t. o.idle i z t.1 none-left) (at_set s.views id i w z e);
          counted = omega (arith, o.counted, sum-set spent s.views id v w me, spent_same st part (Works j got) Idle did (did ++ j ∷ []) mark ends);
          marked = λ i z e. ⊎_elim (λ t. subst (λ (y : View). IfSome y.mark (IsPast st o.counter)) t.1 (o.marked id v me)) (λ t. o.marked i z t.1) (at_set s.views id i w z e);
          did = λ i. dite (ℕ_discrete i j)
              (λ e. omega (arith, sum-set (λ z. count_of i z.did) s.views id v w me, longer i, same_one i e, o.did i, ap is_done (ap (done_at ds) e ∙ get_or-set_same o.done j (Some d) None inside-done), ap is_done (ap (done_at o.done) e ∙ h.1)))
              (λ ne. omega (arith, sum-set (λ z. count_of i z.did) s.views id v w me, longer i, other_one i ne, o.did i, ap is_done (get_or-set_other o.done j i (Some d) None ne)));
        };
        told = (ap (λ (l : List (ℕ × Slot)). (w, l)) (carried-give ps), λ i. did_once i);
        moved = (
          ap (may_finish st) at ∙ what_has st j got wants,
          same_state st (put o.slots ps) ds o.cursor _ _ _ _ refl (sym hands-are) ∙ sym (ap (after_finish m id) at),
        );
      }
