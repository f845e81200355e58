-- A split and a join of seats keep the rule of a board's table, and so does the load of word 0.
use Rattle.std.proofs.Common.{◌≡◌, ◌≢◌, ℕ, ◌+◌, ◌-◌, ◌<◌, ◌≤◌, List, [], ◌∷◌, ◌++◌, length, set, sym, refl, ap, arith, map, get_or, subst, ◌∙◌, ⊎_elim, cond, min}
use Rattle.std.specs.Prelude.{Option, None, Some, is_some, IfSome, sum_by}
use Rattle.std.specs.Option.{option_or}
use Rattle.std.proofs.lemmas.List.{map-set, map-append, set-get_or}
use Rattle.std.proofs.lemmas.List.Sums.{sum_by-append}
use mathlib.Core.Option.{none, some}
use lib.ListN.{get_elem?}
use Rattle.atomic_table.specs.Table.{State, step, keeps, Allows, Splits, Joins}
use Rattle.atomic_table.proofs.Lists.{at_snoc, set_again, set_else}
use Rattle.fusion_core.specs.declared.board.hand.Hand.{Hand}
use Rattle.fusion_core.specs.declared.board.hand.Hand.TheVariants.{Idle}
use Rattle.fusion_core.specs.declared.board.slot.Slot.{Slot}
use Rattle.fusion_core.specs.BoardStates.{BoardState, done_at, holds}
use Rattle.fusion_core.specs.Counts.{count_of}
use Rattle.fusion_core.specs.Jobs.{Start}
use Rattle.fusion_core.proofs.HeldLemmas.{in_one_hand}
use Rattle.fusion_core.proofs.SumLemmas.{count_of-append}
use Rattle.fusion_core.proofs.TouchSums.{at_map, at_set, sum-set, term_le}
use Rattle.work_board.specs.declared.view.View.{View}
use Rattle.work_board.specs.Events.{Goes, IsInOneHand, IsInOneList, IsNone, JoinIsNone, SplitIsNone, WeighIsNone, cut_table, joined_table, machine, with_worker}
use Rattle.work_board.specs.Rule.{IsPast, Shows, shown, spent, view}
use Rattle.work_board.specs.Steps.{Held, both, cut_left, cut_right, gone, weighed, NoneTwice}
use Rattle.work_board.proofs.Counting.{more_hands}
use Rattle.work_board.proofs.Keeps.{hand_of, is_done_le, same_state, same_whole}

spent_cut : (st : Start) (part k : ℕ) (did : List ℕ) (mark : Option ℕ) (ends : ℕ) → k < part
    → spent (cut_left k (view st part Idle did mark ends)) + spent (cut_right k (view st part Idle did mark ends)) ≡ spent (view st part Idle did mark ends)
spent_cut st part k did None ends h = refl
spent_cut st part k did (Some d) ends h = omega arith

by_marks : (a b : ℕ) (m n : Option ℕ) → cond (is_some m) a 0 + cond (is_some n) b 0 ≤ cond (is_some (option_or m n)) (a + b) 0
by_marks a b None None = omega arith
by_marks a b None (Some y) = omega arith
by_marks a b (Some x) None = omega arith
by_marks a b (Some x) (Some y) = omega arith

spent_both : (v w : View) → spent v + spent w ≤ spent (both v w)
spent_both v w = by_marks v.part w.part v.mark w.mark

if_or : (P : ℕ → Type 0) (a b : Option ℕ) → IfSome a P → IfSome b P → IfSome (option_or a b) P
if_or P None b h i = i
if_or P (Some d) b h i = h

module _ (st : Start) (seats : ℕ) where
  -- a list has no job twice
  listed_once : (id : ℕ) (s : State Slot View) (v : View) → Shows st seats s → get_elem? s.views id ≡ some v → NoneTwice v.did
  listed_once id s v o me j = let t = term_le (λ z. count_of j z.did) s.views id v me in let l = is_done_le (done_at o.done j) in omega (arith, o.did j)

  pub weigh_goes : (n id : ℕ) (s : State Slot View) (o : Shows st seats s) (m : Held) → get_elem? s.views id ≡ some m.0 → Goes st seats id 0 (get_or s.words 0 0) m s o (weighed (step n 0 0 0 none) m (get_or s.words 0 0)) IsNone
  weigh_goes n id s o m me =
      let P : List ℕ → List View → Type 0 = λ ws vs. Shows st seats record { words = ws; homes = s.homes; views = vs } in
      let hands : List Hand = map hand_of s.views in
      let at : get_elem? hands id ≡ some m.0.hand = at_map hand_of s.views id m.0 me in
      let hands-are : map hand_of (set s.views id m.0) ≡ hands = map-set hand_of s.views id m.0 ∙ set_again hands id m.0.hand at in
      record {
        view = m.0;
        act = keeps;
        valid = tt;
        rule = record {
          slots = o.slots;
          counter = o.counter;
          cursor = o.cursor;
          done = o.done;
          whole = same_whole st o.slots o.done o.cursor (min o.counter (length st.jobs)) (min o.counter (length st.jobs)) hands (map hand_of (set s.views id m.0)) refl (sym hands-are) o.whole;
          words = set-get_or s.words 0 0 ∙ o.words;
          fits = o.fits;
          homes = o.homes;
          at_home = λ i lt none-away. o.at_home i lt (ap (sum_by (holds st i)) (sym hands-are) ∙ none-away);
          few = o.few;
          parts = ap (sum_by (λ u. u.part)) (set_again s.views id m.0 me) ∙ o.parts;
          idle = λ i u e. o.idle i u (ap (λ (l : List View). get_elem? l i) (sym (set_again s.views id m.0 me)) ∙ e);
          counted = subst (λ (l : List View). o.counter ≤ length st.jobs + sum_by spent l) (sym (set_again s.views id m.0 me)) o.counted;
          marked = λ i u e. o.marked i u (ap (λ (l : List View). get_elem? l i) (sym (set_again s.views id m.0 me)) ∙ e);
          did = λ j. ap (sum_by (λ u. count_of j u.did)) (set_again s.views id m.0 me) ∙ o.did j;
        };
        told = (refl, (let t = term_le (λ z. z.part) s.views id m.0 me in omega (arith, o.parts, o.few)), listed_once id s m.0 o me);
        moved = same_state st o.slots o.done o.cursor _ _ _ _ refl hands-are;
      }

  cuts_view : (id part k : ℕ) (did : List ℕ) (mark : Option ℕ) (ends : ℕ) → 1 ≤ k → k < part → (s : State Slot View) (o : Shows st seats s) → get_elem? s.views id ≡ some (view st part Idle did mark ends)
      → (p : Shows st seats (cut_table s id (cut_left k (view st part Idle did mark ends)) (cut_right k (view st part Idle did mark ends))))
      × (machine st seats (cut_table s id (cut_left k (view st part Idle did mark ends)) (cut_right k (view st part Idle did mark ends))) p ≡ with_worker (machine st seats s o))
  cuts_view id part k did mark ends one less s o me =
      let v : View = view st part Idle did mark ends in let l : View = cut_left k v in let r : View = cut_right k v in let vs : List View = set s.views id l in
      let hands : List Hand = map hand_of s.views in
      let at : get_elem? hands id ≡ some Idle = at_map hand_of s.views id v me in
      let hands-are : map hand_of (vs ++ r ∷ []) ≡ hands ++ Idle ∷ [] = map-append hand_of vs (r ∷ []) ∙ ap (λ (h : List Hand). h ++ Idle ∷ []) (map-set hand_of s.views id l ∙ set_again hands id Idle at) in
      let m : BoardState = shown st o.slots o.counter o.cursor o.done s.views in (
        record {
          slots = o.slots;
          counter = o.counter;
          cursor = o.cursor;
          done = o.done;
          whole = same_whole st o.slots o.done o.cursor (min o.counter (length st.jobs)) (min o.counter (length st.jobs)) (hands ++ Idle ∷ []) (map hand_of (vs ++ r ∷ [])) refl (sym hands-are) (more_hands m o.whole);
          words = o.words;
          fits = o.fits;
          homes = o.homes;
          at_home = λ i lt none-away. o.at_home i lt (let e : sum_by (holds st i) (hands ++ Idle ∷ []) ≡ 0 = ap (sum_by (holds st i)) (sym hands-are) ∙ none-away in let a = sum_by-append (holds st i) hands (Idle ∷ []) in omega arith);
          few = o.few;
          parts = omega (arith, sum_by-append (λ u. u.part) vs (r ∷ []), sum-set (λ u. u.part) s.views id v l me, o.parts);
          idle = λ i u e none-left. ⊎_elim
              (λ t. ⊎_elim (λ p. absurd (let q : part - k ≡ u.part = ap (λ (z : View). z.part) p.1 in omega arith)) (λ p. o.idle i u p.1 none-left) (at_set s.views id i l u t))
              (λ t. absurd (let q : k ≡ u.part = ap (λ (z : View). z.part) t in omega arith)) (at_snoc vs r u i e);
          counted = omega (arith, o.counted, sum_by-append spent vs (r ∷ []), sum-set spent s.views id v l me, spent_cut st part k did mark ends less);
          marked = λ i u e. let own = o.marked id v me in ⊎_elim
              (λ t. ⊎_elim (λ p. subst (λ (z : View). IfSome z.mark (IsPast st o.counter)) p.1 own) (λ p. o.marked i u p.1) (at_set s.views id i l u t))
              (λ t. subst (λ (z : View). IfSome z.mark (IsPast st o.counter)) t own) (at_snoc vs r u i e);
          did = λ j. omega (arith, sum_by-append (λ u. count_of j u.did) vs (r ∷ []), sum-set (λ u. count_of j u.did) s.views id v l me, o.did j);
        },
        same_state st o.slots o.done o.cursor _ _ _ _ refl hands-are,
      )

  joins_view : (id other part : ℕ) (did : List ℕ) (mark : Option ℕ) (ends : ℕ) (w : View) → 0 < part → w.hand ≡ Idle → (s : State Slot View) (o : Shows st seats s)
      → get_elem? s.views id ≡ some (view st part Idle did mark ends) → other ≢ id → get_elem? s.views other ≡ some w
      → (p : Shows st seats (joined_table s id (both (view st part Idle did mark ends) w) other gone)) × IsNone (machine st seats s o) (machine st seats (joined_table s id (both (view st part Idle did mark ends) w) other gone) p)
  joins_view id other part did mark ends w some-part idle-hand s o me ne was =
      let v : View = view st part Idle did mark ends in let b : View = both v w in let vs : List View = set s.views id b in
      let hands : List Hand = map hand_of s.views in
      let them : get_elem? vs other ≡ some w = set_else s.views id other b ne ∙ was in
      let at : get_elem? hands id ≡ some Idle = at_map hand_of s.views id v me in
      let at' : get_elem? hands other ≡ some Idle = at_map hand_of s.views other w was ∙ ap some idle-hand in
      let once : map hand_of vs ≡ hands = map-set hand_of s.views id b ∙ set_again hands id Idle at in
      let hands-are : map hand_of (set vs other gone) ≡ hands = map-set hand_of vs other gone ∙ ap (λ (h : List Hand). set h other Idle) once ∙ set_again hands other Idle at' in (
        record {
          slots = o.slots;
          counter = o.counter;
          cursor = o.cursor;
          done = o.done;
          whole = same_whole st o.slots o.done o.cursor (min o.counter (length st.jobs)) (min o.counter (length st.jobs)) hands (map hand_of (set vs other gone)) refl (sym hands-are) o.whole;
          words = o.words;
          fits = o.fits;
          homes = o.homes;
          at_home = λ i lt none-away. o.at_home i lt (ap (sum_by (holds st i)) (sym hands-are) ∙ none-away);
          few = o.few;
          parts = omega (arith, sum-set (λ u. u.part) vs other w gone them, sum-set (λ u. u.part) s.views id v b me, o.parts);
          idle = λ i u e none-left. ⊎_elim (λ t. (ap hand_of (sym t.1), ap (λ (z : View). z.did) (sym t.1)))
              (λ t. ⊎_elim (λ p. absurd (let q : part + w.part ≡ u.part = ap (λ (z : View). z.part) p.1 in omega arith)) (λ p. o.idle i u p.1 none-left) (at_set s.views id i b u t.1)) (at_set vs other i gone u e);
          counted = omega (arith, o.counted, sum-set spent vs other w gone them, sum-set spent s.views id v b me, spent_both v w);
          marked = λ i u e. ⊎_elim
              (λ t. subst (λ (z : View). IfSome z.mark (IsPast st o.counter)) t.1 tt)
              (λ t. ⊎_elim (λ p. subst (λ (z : View). IfSome z.mark (IsPast st o.counter)) p.1 (if_or (IsPast st o.counter) mark w.mark (o.marked id v me) (o.marked other w was))) (λ p. o.marked i u p.1) (at_set s.views id i b u t.1))
              (at_set vs other i gone u e);
          did = λ j. omega (arith, sum-set (λ u. count_of j u.did) vs other w gone them, sum-set (λ u. count_of j u.did) s.views id v b me, count_of-append j did w.did, o.did j);
        },
        same_state st o.slots o.done o.cursor _ _ _ _ refl hands-are,
      )

pub weigh_is_none : WeighIsNone
weigh_is_none st seats n id s o m me = weigh_goes st seats n id s o m me

pub weighs : (st : Start) (seats n id : ℕ) (m : Held) → Allows (Shows st seats) n id m 0 (λ y. y) (weighed (step n 0 0 0 none) m)
weighs st seats n id m s o slots-are me _ = let g = weigh_goes st seats n id s o m me in (g.view, g.act, g.valid, g.rule, g.told)

-- a view by its parts
view-is : (v : View) (st : Start) → v.start ≡ st → v.hand ≡ Idle → v ≡ view st v.part Idle v.did v.mark v.ends
view-is v st p q = λ i. view (p i) v.part (q i) v.did v.mark v.ends

pub split_is_none : SplitIsNone
split_is_none st seats id k v one less idle begun s o =
    subst (λ (z : View). get_elem? s.views id ≡ some z → (p : Shows st seats (cut_table s id (cut_left k z) (cut_right k z))) × (machine st seats (cut_table s id (cut_left k z) (cut_right k z)) p ≡ with_worker (machine st seats s o)))
    (sym (view-is v st begun idle)) (cuts_view st seats id v.part k v.did v.mark v.ends one less s o)

pub join_is_none : JoinIsNone
join_is_none st seats id other v w some-part idle idle-other begun s o me ne was =
    subst (λ (z : View). get_elem? s.views id ≡ some z → (p : Shows st seats (joined_table s id (both z w) other gone)) × IsNone (machine st seats s o) (machine st seats (joined_table s id (both z w) other gone) p))
    (sym (view-is v st begun idle)) (λ at. joins_view st seats id other v.part v.did v.mark v.ends w some-part idle-other s o at ne was) me

pub cuts : (st : Start) (seats id k : ℕ) (v : View) → 1 ≤ k → k < v.part → v.hand ≡ Idle → v.start ≡ st → Splits (Shows st seats) id v (cut_left k v) (cut_right k v)
cuts st seats id k v one less idle begun s o me = (split_is_none st seats id k v one less idle begun s o me).0

pub joins : (st : Start) (seats id other : ℕ) (v w : View) → 0 < v.part → v.hand ≡ Idle → w.hand ≡ Idle → v.start ≡ st → Joins (Shows st seats) id v other w (both v w) gone
joins st seats id other v w some-part idle idle-other begun s o me ne them =
    (join_is_none st seats id other v w some-part idle idle-other begun s o me ne (⊎_elim (λ t. absurd (ne t.0)) (λ t. t.1) (at_set s.views id other (both v w) w them))).0

-- ---- what holds at each moment

pub is_in_one_hand : IsInOneHand
is_in_one_hand st seats s o k = in_one_hand (machine st seats s o) k o.whole

pub is_in_one_list : IsInOneList
is_in_one_list st seats s j o = let l = is_done_le (done_at o.done j) in omega (arith, o.did j)
