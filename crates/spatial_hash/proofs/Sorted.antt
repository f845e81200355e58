-- Pairs of keys and values that were sorted: the same map.
use Rattle.std.proofs.Common.{◌≡◌, ℕ, zero, suc, ◌+◌, ◌-◌, ◌<◌, ◌≤◌, List, [], ◌∷◌, ◌++◌, length, map, false, refl, sym, ap, ◌∙◌, arith, inl, inr, get_or, subst}
use Rattle.std.specs.Prelude.{Some, None, Option, ◌⊎◌, slice_index}
use Rattle.std.specs.Ordering.{is_lt, is_eq, nat_cmp, ordering_then, ordering_reverse}
use Rattle.std.specs.declared.cmp.Ordering.{Ordering}
use Rattle.std.specs.declared.cmp.Ordering.TheVariants.{Less, Equal, Greater}
use Rattle.std.specs.List.{IsDistinct, AllByRecursion, Contains}
use Rattle.std.specs.List.Sorted.{IsPermutation, IsSorted, IsStrictlySortedBy}
use Rattle.std.specs.Cmp.{eq_by_cmp_equiv}
use Rattle.std.specs.FinMap.{from_entries, find, same_map, get-from_entries}
use Rattle.std.proofs.lemmas.Bool.{cases_Bool, cond-true, cond-false}
use Rattle.std.proofs.lemmas.Map.Keys.{IsDistinct-head, IsDistinct-tail, IsDistinct-IsPermutation, sorted_from_all_adjacent, apart_from_distinct}
use Rattle.std.proofs.lemmas.List.Sorted.{Contains-permutation, IsPermutation-sym}
use Rattle.std.proofs.lemmas.List.{length-map, append_assoc, append-nil}
use Rattle.std.proofs.lemmas.Bool.{true≢false}
use Rattle.spatial_hash.specs.Table.{Table, entries_in, key_word}
use Rattle.spatial_hash.specs.Contents.{pairs_from, tied}
use Rattle.spatial_hash.specs.Sound.{IsSound}
use Rattle.spatial_hash.proofs.Maps.{Stands, later, pairs_none, pairs_some, cases_option, one_entry, same_options}
use Rattle.voxel_block.specs.declared.key.BlockKey.{BlockKey}
use Rattle.voxel_block.specs.Keys.{key_cmp, same_key}
use Rattle.voxel_block.specs.Words.{key_with, key_of}
use Rattle.voxel_block.proofs.KeyLaws.{exact_keys, key_itself, keys_total, other_key, same_key_is}

abbrev pub Pair : Type 0
Pair = BlockKey × ℕ

-- p is in the list
abbrev pub In : Pair → List Pair → Type 0
In p [] = ⊥
In p (x ∷ xs) = (x ≡ p) ⊎ In p xs

contains_in : (xs : List Pair) (k : ℕ) (p : Pair) → k < length xs → get_or xs k p ≡ p → In p xs
contains_in [] k p lt e = absurd (omega arith)
contains_in (x ∷ xs) zero p lt e = inl e
contains_in (x ∷ xs) (suc k) p lt e = inr (contains_in xs k p (omega arith) e)

in_contains : (xs : List Pair) (p : Pair) → In p xs → Contains xs p
in_contains [] p h = absurd h
in_contains (x ∷ xs) p h =
    elim h [
      | inl e ↦ (0, omega arith, e)
      | inr r ↦ (let c = in_contains xs p r in let lt : c.0 < length xs = c.1 in (suc c.0, omega arith, c.2))
    ]

all_at : (P : Pair → Type 0) (xs : List Pair) (p : Pair) → AllByRecursion P xs → In p xs → P p
all_at P [] p a h = absurd h
all_at P (x ∷ xs) p a h = elim h [ inl e ↦ subst P e a.0 | inr r ↦ all_at P xs p a.1 r ]

pub all_from : (P : Pair → Type 0) (xs : List Pair) → ((p : Pair) → In p xs → P p) → AllByRecursion P xs
all_from P [] f = tt
all_from P (x ∷ xs) f = (f x (inl refl), all_from P xs (λ p h. f p (inr h)))

find_in : (xs : List Pair) (q : BlockKey) (c : ℕ) → find key_cmp q xs ≡ Some c → In (q, c) xs
find_in [] q c h = let h' : ◌≡◌ {A = Option ℕ} None (Some c) = h in absurd (cc)
find_in (x ∷ xs) q c h =
    elim (cases_Bool (same_key q x.0)) [
      | inl hit ↦ (
          let one : q ≡ x.0 = same_key_is q x.0 hit in
          let h2 : Some x.1 ≡ Some c = sym (cond-true (same_key q x.0) _ _ hit) ∙ h in
          let two : x.1 ≡ c = cc in
          inl (λ i. (sym one i, two i)))
      | inr miss ↦ inr (find_in xs q c (sym (cond-false (same_key q x.0) _ _ miss) ∙ h))
    ]

in_find : (xs : List Pair) (q : BlockKey) (c : ℕ) → IsDistinct tied xs → In (q, c) xs → find key_cmp q xs ≡ Some c
in_find [] q c d h = absurd h
in_find (x ∷ xs) q c d h =
    elim h [
      | inl e ↦ (
          let one : x.0 ≡ q = ap (λ (p : Pair). p.0) e in
          let two : x.1 ≡ c = ap (λ (p : Pair). p.1) e in
          cond-true (same_key q x.0) _ _ (ap (same_key q) one ∙ key_itself q) ∙ ap Some two)
      | inr r ↦ (
          let no : tied x (q, c) ≡ false = all_at (λ y. tied x y ≡ false) xs (q, c) (IsDistinct-head tied x xs d) r in
          cond-false (same_key q x.0) _ _ ((eq_by_cmp_equiv keys_total).symm q x.0 ∙ no) ∙ in_find xs q c (IsDistinct-tail tied x xs d) r)
    ]

-- ---- another order of the same pairs

moved : (xs ys : List Pair) (p : Pair) → IsPermutation xs ys → In p xs → In p ys
moved xs ys p m h = let c = Contains-permutation xs ys p m (in_contains xs p h) in contains_in ys c.0 p c.1 c.2

pub still_distinct : (xs ys : List Pair) → IsPermutation xs ys → IsDistinct tied xs → IsDistinct tied ys
still_distinct xs ys p d = IsDistinct-IsPermutation tied (λ x y. (eq_by_cmp_equiv keys_total).symm x.0 y.0) xs ys p d

pub same_entries : (xs ys : List Pair) → IsPermutation xs ys → IsDistinct tied xs → from_entries {R = key_cmp} ys ≡ from_entries xs
same_entries xs ys p d =
    same_map keys_total exact_keys (from_entries ys) (from_entries xs) (λ q.
    get-from_entries keys_total ys q
    ∙ same_options (find key_cmp q ys) (find key_cmp q xs)
    (λ c h. in_find xs q c d (moved ys xs (q, c) (IsPermutation-sym xs ys p) (find_in ys q c h)))
    (λ c h. in_find ys q c (still_distinct xs ys p d) (moved xs ys (q, c) p (find_in xs q c h)))
    ∙ sym (get-from_entries keys_total xs q))

-- ---- the pairs of a table

in_stands : (m : ℕ) (t : Table) (e : ℕ) (q : BlockKey) (c : ℕ) → In (q, c) (pairs_from m t e) → Stands m t e q c
unfolding pairs_from
in_stands zero t e q c h = absurd h
in_stands (suc m) t e q c h =
    elim (cases_option (key_of (key_word t e))) [
      | inl none ↦ (let P : List Pair → Type 0 = In (q, c) in later m t e q c (in_stands m t (e + 1) q c (subst P (pairs_none m t e none) h)))
      | inr some ↦ (
          let P : List Pair → Type 0 = In (q, c) in
          let h2 : In (q, c) ((some.0, slice_index t.cells e) ∷ pairs_from m t (e + 1)) = subst P (pairs_some m t e some.0 some.1) h in
          elim h2 [
            | inl is ↦ record { at = e; from = omega arith; below = omega arith; key = some.1 ∙ ap Some (ap (λ (p : Pair). p.0) is); cell = ap (λ (p : Pair). p.1) is }
            | inr r ↦ later m t e q c (in_stands m t (e + 1) q c r)
          ])
    ]

pub pairs_distinct : (m : ℕ) (t : Table) (e : ℕ) → IsSound t → e + m ≤ entries_in t → IsDistinct tied (pairs_from m t e)
unfolding pairs_from IsDistinct
pairs_distinct zero t e s le = tt
pairs_distinct (suc m) t e s le =
    let rest : IsDistinct tied (pairs_from m t (e + 1)) = pairs_distinct m t (e + 1) s (omega arith) in
    elim (cases_option (key_of (key_word t e))) [
      | inl none ↦ subst (IsDistinct tied) (sym (pairs_none m t e none)) rest
      | inr some ↦ subst (IsDistinct tied) (sym (pairs_some m t e some.0 some.1)) (
        all_from (λ y. tied (some.0, slice_index t.cells e) y ≡ false) (pairs_from m t (e + 1)) (λ p h.
            other_key some.0 p.0 (λ same.
            let st : Stands m t (e + 1) p.0 p.1 = in_stands m t (e + 1) p.0 p.1 h in
            let f : e + 1 ≤ st.at = st.from in
            let b : st.at < e + 1 + m = st.below in
            let one : e ≡ st.at = one_entry t p.0 e st.at s.differ (omega arith) (omega arith) (some.1 ∙ ap Some same) st.key in
            absurd (omega arith))),
        rest,
      )
    ]

-- ---- in order

abbrev pub pair_cmp : Pair → Pair → Ordering
pair_cmp p q = ordering_then (key_cmp p.0 q.0) (nat_cmp p.1 q.1)

rises_by : (a b : Pair) (o : Ordering) → key_cmp a.0 b.0 ≡ o → is_lt (pair_cmp b a) ≡ false → tied a b ≡ false → key_cmp a.0 b.0 ≡ Less
rises_by a b Less e lt ne = e
rises_by a b Equal e lt ne = let q : is_eq Equal ≡ false = ap is_eq (sym e) ∙ ne in absurd (true≢false q)
rises_by a b Greater e lt ne =
    let r : key_cmp b.0 a.0 ≡ Less = keys_total.antisymm b.0 a.0 ∙ ap ordering_reverse e in
    let q : is_lt (ordering_then Less (nat_cmp b.1 a.1)) ≡ false = ap (λ (x : Ordering). is_lt (ordering_then x (nat_cmp b.1 a.1))) (sym r) ∙ lt in
    absurd (true≢false q)

keys_at : (xs : List Pair) (k : ℕ) (d : Pair) → get_or (map (λ (p : Pair). p.0) xs) k d.0 ≡ (get_or xs k d).0
keys_at [] k d = refl
keys_at (x ∷ xs) zero d = refl
keys_at (x ∷ xs) (suc k) d = keys_at xs k d

pub keys_rise : (xs : List Pair) → IsSorted pair_cmp xs → IsDistinct tied xs → IsStrictlySortedBy key_cmp (map (λ (p : Pair). p.0) xs)
keys_rise xs s d =
    let zero_pair : Pair = (key_with 0 0 0, 0) in
    sorted_from_all_adjacent keys_total (map (λ (p : Pair). p.0) xs) (key_with 0 0 0) (λ k lt.
    let n : length (map (λ (p : Pair). p.0) xs) ≡ length xs = length-map xs (λ (p : Pair). p.0) in
    let a = get_or xs k zero_pair in
    let b = get_or xs (k + 1) zero_pair in
    ap (λ (x : BlockKey). key_cmp x (get_or (map (λ (p : Pair). p.0) xs) (k + 1) (key_with 0 0 0))) (keys_at xs k zero_pair)
    ∙ ap (key_cmp a.0) (keys_at xs (k + 1) zero_pair)
    ∙ rises_by a b (key_cmp a.0 b.0) refl (s k zero_pair (omega arith) (omega arith)) (apart_from_distinct tied xs k (k + 1) zero_pair d (omega arith) (omega arith)))

-- ---- a loop over all entries

pub pairs_next : (t : Table) (e n : ℕ) (ps : List Pair) (k : BlockKey) (c : ℕ) → e < n → key_of (key_word t e) ≡ Some k → slice_index t.cells e ≡ c
    → ps ++ pairs_from (n - e) t e ≡ pairs_from n t 0 → (ps ++ (k, c) ∷ []) ++ pairs_from (n - (e + 1)) t (e + 1) ≡ pairs_from n t 0
pairs_next t e n ps k c lt is cell h =
    let m : n - e ≡ suc (n - (e + 1)) = omega arith in
    append_assoc ps ((k, c) ∷ []) (pairs_from (n - (e + 1)) t (e + 1))
    ∙ ap (λ (x : ℕ). ps ++ (k, x) ∷ pairs_from (n - (e + 1)) t (e + 1)) (sym cell)
    ∙ ap (λ (xs : List Pair). ps ++ xs) (sym (pairs_some (n - (e + 1)) t e k is))
    ∙ ap (λ (x : ℕ). ps ++ pairs_from x t e) (sym m) ∙ h

pub pairs_skip : (t : Table) (e n : ℕ) (ps : List Pair) → e < n → key_of (key_word t e) ≡ None
    → ps ++ pairs_from (n - e) t e ≡ pairs_from n t 0 → ps ++ pairs_from (n - (e + 1)) t (e + 1) ≡ pairs_from n t 0
pairs_skip t e n ps lt is h =
    let m : n - e ≡ suc (n - (e + 1)) = omega arith in
    ap (λ (xs : List Pair). ps ++ xs) (sym (pairs_none (n - (e + 1)) t e is))
    ∙ ap (λ (x : ℕ). ps ++ pairs_from x t e) (sym m) ∙ h

pub pairs_over : (t : Table) (e n : ℕ) (ps : List Pair) → n ≤ e → ps ++ pairs_from (n - e) t e ≡ pairs_from n t 0 → ps ≡ pairs_from n t 0
unfolding pairs_from
pairs_over t e n ps le h = let z : n - e ≡ 0 = omega arith in sym (append-nil ps) ∙ ap (λ (x : ℕ). ps ++ pairs_from x t e) (sym z) ∙ h
