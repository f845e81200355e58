-- How long a seat's lists are: it touches no more keys than there are entries, and places no more than it touches.
use Rattle.std.proofs.Common.{◌≡◌, ◌≢◌, ℕ, ◌<◌, ◌≤◌, eqb, Bool, true, false, cond, ◌||◌, ◌&&◌, List, [], ◌∷◌, ◌++◌, length, map, get_or, refl, sym, ap, ◌∙◌, subst, arith, inl, inr}
use Rattle.std.specs.List.{IsDistinct, list_any, AllByRecursion}
use Rattle.std.specs.Cmp.{nat_eq_equiv}
use Rattle.std.proofs.lemmas.Bool.{cases_eq, eqb-true, eq-eqb, ne_eqb, false≢true}
use Rattle.std.proofs.lemmas.List.{length-map}
use Rattle.std.proofs.lemmas.Map.Made.{length-le_from_is_member}
use Rattle.std.proofs.lemmas.Map.Steps.{length-le_from_distinct_below}
use Rattle.spatial_hash.specs.Table.{Table, entries_in}
use Rattle.fusion_core.specs.TouchCounts.{times, pairs_at, firsts, has_first}
use Rattle.fusion_core.specs.TouchSteps.{touched_after}
use Rattle.fusion_core.specs.TouchSeats.{SeatState}
use Rattle.fusion_core.specs.TouchRule.{Fits}
use Rattle.fusion_core.proofs.TouchSums.{times-cons, pairs-cons, firsts-cons, firsts-append}
use Rattle.fusion_core.proofs.TouchPairs.{holds_here, test_yes, test_no}

-- ---- a touched key stands once

none_by : (k : ℕ) (p : ℕ × ℕ) (ps : List (ℕ × ℕ)) (a b : Bool) → (a ≡ false → p.0 ≢ k) → (b ≡ false → firsts k ps ≡ 0) → (a || b) ≡ false → firsts k (p ∷ ps) ≡ 0
none_by k p ps true b ne none h = absurd (false≢true (sym h))
none_by k p ps false b ne none h = omega (arith, firsts-cons k p ps, none h, test_no p.0 k (ne refl))

differ_from : (a k : ℕ) → eqb a k ≡ false → a ≢ k
differ_from a k f q = false≢true (sym f ∙ eq-eqb a k q)

none_first : (k : ℕ) (t : List (ℕ × ℕ)) → has_first k t ≡ false → firsts k t ≡ 0
none_first k [] h = refl
none_first k (p ∷ ps) h = none_by k p ps (eqb p.0 k) (has_first k ps) (differ_from p.0 k) (none_first k ps) h

abbrev pub IsOnce : List (ℕ × ℕ) → Type 0
IsOnce t = (x : ℕ) → firsts x t ≤ 1

once_by : (k e : ℕ) (t : List (ℕ × ℕ)) (a b : Bool) → (b ≡ false → firsts k t ≡ 0) → IsOnce t → (x : ℕ) → firsts x (cond a (cond b t (t ++ (k, e) ∷ [])) t) ≤ 1
once_by k e t false b none once x = once x
once_by k e t true true none once x = once x
once_by k e t true false none once x =
    let n : firsts k t ≡ 0 = none refl in
    let o = once x in
    let a = firsts-append x t ((k, e) ∷ []) in
    let c = firsts-cons x (k, e) [] in
    elim (cases_eq k x) [
      | inl q ↦ (let y = test_yes k x q in let z : firsts x t ≡ 0 = ap (λ (i : ℕ). firsts i t) (sym q) ∙ n in omega arith)
      | inr ne ↦ (let y = test_no k x ne in omega arith)
    ]

pub once_after : (k e r : ℕ) (t : List (ℕ × ℕ)) → IsOnce t → IsOnce (touched_after k e r t)
once_after k e r t once = once_by k e t (eqb r k) (has_first k t) (none_first k t) once

-- ---- touched keys have different entries

-- no pair of the list has entry e, where the entry of each pair has the pair's key, and entry e has a key that is no pair's
others_differ : (at : ℕ → ℕ) (k e : ℕ) (t : List (ℕ × ℕ)) → ((x d : ℕ) → 0 < pairs_at x d t → at d ≡ x) → at e ≡ k → firsts k t ≡ 0 → AllByRecursion (λ y. eqb e y ≡ false) (map (λ p. p.1) t)
others_differ at k e [] each is none = tt
others_differ at k e (q ∷ qs) each is none =
    let c = firsts-cons k q qs in (
      ne_eqb e q.1 (λ same. (
          let here : at q.1 ≡ q.0 = each q.0 q.1 (holds_here q.0 q.1 qs) in
          let y = test_yes q.0 k (sym here ∙ ap at (sym same) ∙ is) in
          absurd (omega arith))),
      others_differ at k e qs (λ x d h. each x d (omega (arith, h, pairs-cons x d q qs))) is (omega arith),
    )

distinct_entries : (at : ℕ → ℕ) (t : List (ℕ × ℕ)) → ((x d : ℕ) → 0 < pairs_at x d t → at d ≡ x) → IsOnce t → IsDistinct eqb (map (λ p. p.1) t)
unfolding IsDistinct
distinct_entries at [] each once = tt
distinct_entries at (p ∷ ps) each once =
    let rest : (x d : ℕ) → 0 < pairs_at x d ps → at d ≡ x = λ x d h. each x d (omega (arith, h, pairs-cons x d p ps)) in
    let o = once p.0 in
    let c = firsts-cons p.0 p ps in
    let y = test_yes p.0 p.0 refl in
    (others_differ at p.0 p.1 ps rest (each p.0 p.1 (holds_here p.0 p.1 ps)) (omega arith), distinct_entries at ps rest (λ x. (let z = once x in let w = firsts-cons x p ps in omega arith)))

second_by : (e : ℕ) (p : ℕ × ℕ) (ps : List (ℕ × ℕ)) (a b : Bool) → (a ≡ true → e ≡ p.1) → (b ≡ true → (x : ℕ) × (0 < pairs_at x e ps)) → (a || b) ≡ true → (x : ℕ) × (0 < pairs_at x e (p ∷ ps))
second_by e p ps true b is more h = (p.0, subst (λ y. 0 < pairs_at p.0 y (p ∷ ps)) (sym (is refl)) (holds_here p.0 p.1 ps))
second_by e p ps false b is more h = let o = more h in (o.0, (let q : 0 < pairs_at o.0 e ps = o.1 in let r : 0 < pairs_at o.0 e (p ∷ ps) = omega (arith, q, pairs-cons o.0 e p ps) in r))

second_in : (e : ℕ) (t : List (ℕ × ℕ)) → list_any (eqb e) (map (λ p. p.1) t) ≡ true → (x : ℕ) × (0 < pairs_at x e t)
second_in e [] h = absurd (false≢true h)
second_in e (p ∷ ps) h = second_by e p ps (eqb e p.1) (list_any (eqb e) (map (λ q. q.1) ps)) (eqb-true e p.1) (second_in e ps) h

-- a seat has touched at most as many keys as there are entries
pub touched_few : (start : Table) (ws : List ℕ) (v : SeatState) → Fits start ws v → IsOnce v.touched → length v.touched ≤ entries_in start
touched_few start ws v f once =
    let distinct = distinct_entries (λ e. get_or ws e 0) v.touched (λ x e h. (f.touched x e h).3) once in
    let few : length (map (λ (p : ℕ × ℕ). p.1) v.touched) ≤ entries_in start = length-le_from_distinct_below (map (λ p. p.1) v.touched) (entries_in start) distinct
    (λ e h. (let o = second_in e v.touched h in (f.touched o.0 e o.1).1)) in
    let same : length (map (λ (p : ℕ × ℕ). p.1) v.touched) ≡ length v.touched = length-map v.touched (λ p. p.1) in
    omega arith

-- ---- a seat places no more keys than it touches

untimed : (x : ℕ) (l : List ℕ) → times x l ≡ 0 → AllByRecursion (λ y. eqb x y ≡ false) l
untimed x [] z = tt
untimed x (y ∷ ys) z =
    let c = times-cons x y ys in
    (ne_eqb x y (λ q. (let t = test_yes y x (sym q) in absurd (omega arith))), untimed x ys (omega arith))

distinct_times : (l : List ℕ) → ((x : ℕ) → times x l ≤ 1) → IsDistinct eqb l
unfolding IsDistinct
distinct_times [] once = tt
distinct_times (y ∷ ys) once =
    let o = once y in
    let c = times-cons y y ys in
    let t = test_yes y y refl in
    (untimed y ys (omega arith), distinct_times ys (λ x. (let z = once x in let w = times-cons x y ys in omega arith)))

timed_by : (x y : ℕ) (ys : List ℕ) (a b : Bool) → (a ≡ true → x ≡ y) → (b ≡ true → 0 < times x ys) → (a || b) ≡ true → 0 < times x (y ∷ ys)
timed_by x y ys true b is more h = let t = test_yes y x (sym (is refl)) in let c = times-cons x y ys in omega arith
timed_by x y ys false b is more h = let o = more h in let c = times-cons x y ys in omega arith

timed : (x : ℕ) (l : List ℕ) → list_any (eqb x) l ≡ true → 0 < times x l
timed x [] h = absurd (false≢true h)
timed x (y ∷ ys) h = timed_by x y ys (eqb x y) (list_any (eqb x) ys) (eqb-true x y) (timed x ys) h

either_true : (a b : Bool) → (a ≡ false → b ≡ true) → (a || b) ≡ true
either_true true b f = refl
either_true false b f = f refl

no_test : (a b : Bool) → a ≡ false → ◌≡◌ {A = ℕ} (cond (a && b) 1 0) 0
no_test true b f = absurd (false≢true (sym f))
no_test false b f = refl

unpaired : (x e : ℕ) (p : ℕ × ℕ) (ps : List (ℕ × ℕ)) → 0 < pairs_at x e (p ∷ ps) → p.0 ≢ x → 0 < pairs_at x e ps
unpaired x e p ps h ne = omega (arith, h, pairs-cons x e p ps, no_test (eqb p.0 x) (eqb p.1 e) (ne_eqb p.0 x ne))

first_in : (x e : ℕ) (t : List (ℕ × ℕ)) → 0 < pairs_at x e t → list_any (eqb x) (map (λ p. p.0) t) ≡ true
first_in x e [] h = absurd (omega (arith, h))
first_in x e (p ∷ ps) h = either_true (eqb x p.0) (list_any (eqb x) (map (λ q. q.0) ps)) (λ f. first_in x e ps (unpaired x e p ps h (λ q. differ_from x p.0 f (sym q))))

pub placed_few : (start : Table) (ws : List ℕ) (v : SeatState) → Fits start ws v → ((x : ℕ) → times x v.placed ≤ 1) → length v.placed ≤ length v.touched
placed_few start ws v f once =
    let few : length v.placed ≤ length (map (λ (p : ℕ × ℕ). p.0) v.touched) = length-le_from_is_member nat_eq_equiv v.placed (map (λ p. p.0) v.touched) (distinct_times v.placed once)
    (λ x h. (let o = f.placed x (timed x v.placed h) in first_in x o.0 v.touched o.1)) in
    let same : length (map (λ (p : ℕ × ℕ). p.0) v.touched) ≡ length v.touched = length-map v.touched (λ p. p.0) in
    omega arith
