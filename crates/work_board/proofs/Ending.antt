-- What is known of a table when a seat with the whole part met the end, and that what is read from it is the board's end.
use Rattle.std.proofs.Common.{◌≡◌, ◌≢◌, ℕ, zero, suc, ◌+◌, ◌-◌, ◌<◌, ◌≤◌, List, [], ◌∷◌, ◌++◌, length, map, set, take, drop, reverse, sym, refl, ap, ◌∙◌, arith, subst, length-append, ⊎_elim, min}
use Rattle.std.specs.Prelude.{Option, None, Some, IsSome, sum_by}
use Rattle.std.proofs.lemmas.Bool.{false≢true}
use Rattle.std.proofs.lemmas.List.{length-map}
use Rattle.std.proofs.lemmas.List.Sums.{sum_by-cons}
use mathlib.Core.Logic.{dite}
use mathlib.Core.Option.{some, some-injective}
use native.Mathlib.Decide.{ℕ_discrete}
use lib.ListN.{get_elem?}
use Rattle.atomic_table.specs.Table.{State, Final, Seen}
use Rattle.fusion_core.specs.declared.board.done.Done.{Done}
use Rattle.fusion_core.specs.declared.board.done.Done.TheVariants as done
use Rattle.fusion_core.specs.declared.board.hand.Hand.{Hand}
use Rattle.fusion_core.specs.declared.board.hand.Hand.TheVariants.{Idle}
use Rattle.fusion_core.specs.declared.board.slot.Slot.{Slot}
use Rattle.fusion_core.specs.BoardEnds.{End, Ends, all_done, frees}
use Rattle.fusion_core.specs.BoardStates.{IsWhole, below, done_at, holds, is_done, works}
use Rattle.fusion_core.specs.Counts.{count_of}
use Rattle.fusion_core.specs.Jobs.{Start, slot_at, slots_of}
use Rattle.fusion_core.proofs.EndLemmas.{done_there, given_ends}
use Rattle.fusion_core.proofs.SumLemmas.{count_of-append, count_of-cons}
use Rattle.fusion_core.proofs.TouchSums.{at_map, at_set, sum-set, terms_le}
use Rattle.work_board.specs.declared.view.View.{View}
use Rattle.work_board.specs.Closes.{AreAnswers, HasEachOnce, done_or, freed_all}
use Rattle.work_board.specs.Rows.{cells_in, docks_in}
use Rattle.work_board.specs.Rule.{FitsWord, Shows, code, shown, view}
use Rattle.work_board.specs.Steps.{gone}
use Rattle.work_board.proofs.Given.{IsRow, all_some, freed_room, rest_free, somes, whole_row}
use Rattle.work_board.proofs.Keeps.{hand_of}

same_items : (xs ys : List Slot) → length xs ≡ length ys → ((k : ℕ) → k < length ys → get_elem? xs k ≡ some (slot_at ys k)) → xs ≡ ys
same_items [] [] e h = refl
same_items [] (y ∷ ys) e h = absurd (omega arith)
same_items (x ∷ xs) [] e h = absurd (omega arith)
same_items (x ∷ xs) (y ∷ ys) e h =
    let first : x ≡ y = some-injective x y (h 0 (omega arith)) in
    let others : xs ≡ ys = same_items xs ys (omega arith) (λ k lt. h (suc k) (omega arith)) in
    ap (λ (z : Slot). z ∷ xs) first ∙ ap (λ (l : List Slot). y ∷ l) others

sum_of_hands : (g : Hand → ℕ) (vs : List View) → ((i : ℕ) (u : View) → get_elem? vs i ≡ some u → g u.hand ≡ 0) → sum_by g (map hand_of vs) ≡ 0
sum_of_hands g [] h = refl
sum_of_hands g (x ∷ xs) h = omega (arith, h 0 x refl, sum_of_hands g xs (λ i u e. h (suc i) u e), sum_by-cons g x.hand (map hand_of xs))

sum_of_none : (g : View → ℕ) (vs : List View) → ((i : ℕ) (u : View) → get_elem? vs i ≡ some u → g u ≡ 0) → sum_by g vs ≡ 0
sum_of_none g [] h = refl
sum_of_none g (x ∷ xs) h = omega (arith, h 0 x refl, sum_of_none g xs (λ i u e. h (suc i) u e), sum_by-cons g x xs)

one_some : (d : Option Done) → is_done d ≡ 1 → IsSome d
one_some None e = absurd (omega arith)
one_some (Some d) e = refl

below_yes : (j n : ℕ) → j < n → below j n ≡ 1
below_yes j n h = grind (arith, h)

-- the words and the slots at the end, where the closing seat did these jobs
pub record IsClosed (st : Start) (did : List ℕ) (ws : List ℕ) (xs : List Slot) : Type 0 where
  pub slots : List Slot
  pub counter : ℕ
  pub cursor : ℕ
  pub done : List (Option Done)
  pub views : List View
  pub whole : IsWhole (shown st slots counter cursor done views)
  pub words : ws ≡ counter ∷ cursor ∷ map code done
  pub slots_are : xs ≡ slots
  pub all : (j : ℕ) → j < length st.jobs → IsSome (done_at done j)
  pub once : HasEachOnce st did
  pub fits : (j : ℕ) (d : Done) → done_at done j ≡ Some d → FitsWord d

closes : (st : Start) (seats id drawn ends : ℕ) (did ws : List ℕ) (xs : List Slot) → 0 < seats → Final (Seen (Shows st seats) id (view st seats Idle did (Some drawn) ends)) ws xs → IsClosed st did ws xs
closes st seats id drawn ends did ws xs some-seat f =
    let s : State Slot View = f.0 in let o = f.1.0 in let me = f.1.1 in let v : View = view st seats Idle did (Some drawn) ends in
    let n : ℕ = length st.jobs in
    let past : n ≤ o.counter = (o.marked id v me).1 in
    let others : (i : ℕ) (u : View) → get_elem? s.views i ≡ some u → i ≢ id → (u.hand ≡ Idle) × (u.did ≡ []) = λ i u e ne.
    o.idle i u e (omega (arith, terms_le (λ z. z.part) s.views id i v u ne me e, o.parts)) in
    let hands : List Hand = map hand_of s.views in
    let idle : (i : ℕ) (u : View) → get_elem? s.views i ≡ some u → u.hand ≡ Idle = λ i u e. dite (ℕ_discrete i id)
    (λ same. ap hand_of (some-injective u v (sym e ∙ ap (get_elem? s.views) same ∙ me))) (λ ne. (others i u e ne).0) in
    let nothing : (g : Hand → ℕ) → g Idle ≡ 0 → sum_by g hands ≡ 0 = λ g z. sum_of_hands g s.views (λ i u e. ap g (idle i u e) ∙ z) in
    let next-is : min o.counter n ≡ n = omega arith in
    let count : (j : ℕ) → is_done (done_at o.done j) ≡ below j n = λ j. let a = o.whole.once j in let b = nothing (works j) refl in let c : below j (min o.counter n) ≡ below j n = ap (below j) next-is in omega arith in
    record {
      slots = o.slots;
      counter = o.counter;
      cursor = o.cursor;
      done = o.done;
      views = s.views;
      whole = o.whole;
      words = sym f.2 ∙ o.words;
      slots_are = same_items xs o.slots (sym f.3 ∙ o.homes) (λ k lt. f.4 k (slot_at o.slots k) (o.at_home k lt (nothing (holds st k) refl)));
      all = λ j lt. one_some (done_at o.done j) (count j ∙ below_yes j n lt);
      once = λ j.
          let rest : sum_by (λ (u : View). count_of j u.did) (set s.views id gone) ≡ 0 = sum_of_none (λ (u : View). count_of j u.did) (set s.views id gone)
          (λ i u e. ⊎_elim (λ t. ap (λ (z : View). count_of j z.did) (sym t.1)) (λ t. ap (count_of j) (others i u t.1 t.0).1) (at_set s.views id i gone u e)) in
          omega (arith, sum-set (λ u. count_of j u.did) s.views id v gone me, o.did j, count j);
      fits = o.fits;
    }

some_is : (o : Option ℕ) → IsSome o → (d : ℕ) × (o ≡ Some d)
some_is None e = absurd (false≢true e)
some_is (Some d) e = (d, refl)

pub closed_of : (st : Start) (seats id : ℕ) (v : View) (ws : List ℕ) (xs : List Slot) → v.start ≡ st → v.part ≡ seats → v.hand ≡ Idle → IsSome v.mark → 0 < v.part
    → Final (Seen (Shows st seats) id v) ws xs → IsClosed st v.did ws xs
closed_of st seats id v ws xs p q h m some-part f =
    let d = some_is v.mark m in
    let is : v ≡ view st seats Idle v.did (Some d.0) v.ends = λ i. view (p i) (q i) (h i) v.did (d.1 i) v.ends in
    closes st seats id d.0 v.ends v.did ws xs (subst (λ (n : ℕ). 0 < n) q some-part) (subst (λ (u : View). Final (Seen (Shows st seats) id u) ws xs) is f)

item_at : (ds : List (Option Done)) (j : ℕ) → j < length ds → get_elem? ds j ≡ some (done_at ds j)
item_at [] j h = absurd (omega arith)
item_at (d ∷ ds) zero h = refl
item_at (d ∷ ds) (suc j) h = item_at ds j (omega arith)

freed_count : (x : ℕ) (ds : List Done) → count_of x (freed_all ds) ≡ sum_by (frees x) ds
freed_count x [] = refl
freed_count x (done.Cell c ∷ ds) = omega (arith, freed_count x ds, sum_by-cons (frees x) (done.Cell c) ds)
freed_count x (done.Freed c ∷ ds) = omega (arith, freed_count x ds, sum_by-cons (frees x) (done.Freed c) ds, count_of-cons x c (freed_all ds))
freed_count x (done.Looked s ∷ ds) = omega (arith, freed_count x ds, sum_by-cons (frees x) (done.Looked s) ds)

le_of : (a b : ℕ) → a ≡ b → a ≤ b
le_of a b e = omega arith

module _ (st : Start) (did ws : List ℕ) (xs : List Slot) (k : IsClosed st did ws xs) where
  -- the slots are cells and then docks, as many as there were
  pub row : IsRow st.cells st.docks xs
  row = subst (λ (l : List Slot). IsRow st.cells st.docks l) (sym k.slots_are) (whole_row (shown st k.slots k.counter k.cursor k.done k.views) k.whole)

  pub cursor_is : (r : ℕ) → get_elem? ws 1 ≡ some r → r ≡ k.cursor
  cursor_is r e = some-injective r k.cursor (sym e ∙ ap (λ (l : List ℕ). get_elem? l 1) k.words)

  pub cursor_le : k.cursor ≤ length st.free
  cursor_le = let r = k.whole.room in omega arith

  answers-are : all_done (somes k.done) ≡ k.done
  answers-are = all_some k.done (λ j lt. k.all j (subst (λ (n : ℕ). j < n) k.whole.done_count lt))

  -- the words are those of the answers
  pub answers : AreAnswers (length st.jobs) ws (somes k.done)
  answers =
      let many : length (somes k.done) ≡ length st.jobs = sym (length-map (somes k.done) Some) ∙ ap length answers-are ∙ k.whole.done_count in
      let at : (j : ℕ) → j < length st.jobs → done_at k.done j ≡ Some (done_or (somes k.done) j) = λ j lt.
      sym (ap (λ (l : List (Option Done)). done_at l j) answers-are) ∙ done_there (somes k.done) j (done.Cell 0) (subst (λ (n : ℕ). j < n) (sym many) lt) in
      record {
        as_many = many;
        fits = λ j lt. k.fits j (done_or (somes k.done) j) (at j lt);
        word = λ j lt. let two : j + 2 ≡ suc (suc j) = omega arith in
            ap (get_elem? ws) two ∙ ap (λ (l : List ℕ). get_elem? l (suc (suc j))) k.words ∙ at_map code k.done j (done_at k.done j) (item_at k.done j (subst (λ (n : ℕ). j < n) (sym k.whole.done_count) lt))
            ∙ ap (λ (d : Option Done). some (code d)) (at j lt);
      }

  -- the free numbers that no job drew, in the other order, and those of freed cells
  abbrev free_then : List ℕ
  free_then = take (length st.free - k.cursor) (reverse st.free) ++ freed_all (somes k.done)

  free_counts : (x : ℕ) → count_of x free_then ≡ count_of x (drop k.cursor st.free) + sum_by (frees x) (somes k.done)
  free_counts x =
      let le = cursor_le in
      omega (arith, count_of-append x (take (length st.free - k.cursor) (reverse st.free)) (freed_all (somes k.done)), rest_free st.free k.cursor x le, freed_count x (somes k.done))

  -- they are at most as many as the cells
  pub free_fits : length (take (length st.free - k.cursor) (reverse st.free)) + length (freed_all (somes k.done)) ≤ length st.cells
  free_fits =
      let r = freed_room (shown st k.slots k.counter k.cursor k.done k.views) (somes k.done) free_then k.whole answers-are (λ x. le_of _ _ (free_counts x)) in
      subst (λ (n : ℕ). n ≤ length st.cells) (length-append (take (length st.free - k.cursor) (reverse st.free)) (freed_all (somes k.done))) r

  -- what is given back is the board's end
  pub closing_ends : (e : End) → e.cells ≡ cells_in xs → e.docks ≡ docks_in xs → e.done ≡ somes k.done → e.free ≡ free_then → Ends st e
  closing_ends e cells docks told free =
      let r = row in
      given_ends (shown st k.slots k.counter k.cursor k.done k.views) e k.whole k.all record {
        slots = (λ i. slots_of (cells i) (docks i)) ∙ r.0 ∙ k.slots_are;
        cells = ap length cells ∙ r.1;
        docks = ap length docks ∙ r.2;
        done = ap all_done told ∙ answers-are;
        free = λ c. ap (count_of c) free ∙ free_counts c ∙ ap (λ (l : List Done). count_of c (drop k.cursor st.free) + sum_by (frees c) l) (sym told);
      }
