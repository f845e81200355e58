-- A filled entry is where its key's walk finds its word.
use Rattle.std.proofs.Common.{◌≡◌, ◌≢◌, ℕ, zero, suc, ◌+◌, ◌-◌, ◌*◌, ◌/◌, ◌%◌, ◌<◌, ◌≤◌, List, [], ◌∷◌, sym, ap, ◌∙◌, arith, inl, inr, subst}
use Rattle.std.specs.Prelude.{Some, None}
use Rattle.std.proofs.lemmas.Bool.{cases_eq, cases_lt}
use Rattle.spatial_hash.specs.Hash.{home}
use Rattle.spatial_hash.specs.Table.{Table, entries_in, key_word, link_word}
use Rattle.spatial_hash.specs.Walk.{chain_of, walk_of, first_with, IsFilled}
use Rattle.spatial_hash.specs.Sound.{Leads, IsSound}
use Rattle.spatial_hash.proofs.Walks.{first_here, first_later, Left, left_start, left_node, AtNode, Passed, passed_none, met_entry_by, passed_all}

-- ---- buckets

-- the entries of a bucket up to a filled one are filled
pub filled_below : (t : Table) (h i : ℕ) → IsSound t → h < t.buckets → i < 4 → 0 < key_word t (4 * h + i) → (j : ℕ) → j ≤ i → 0 < key_word t (4 * h + j)
filled_below t h zero s lt low f j le = let z : j ≡ 0 = omega arith in rw z f
filled_below t h (suc i) s lt low f j le =
    elim (cases_eq j (suc i)) [
      | inl e ↦ rw e f
      | inr ne ↦ filled_below t h i s lt (omega arith) (s.prefix h i lt (omega arith) f) j (omega arith)
    ]

-- i entries are passed where they are filled with other words
pub passed_up : (t : Table) (h w i : ℕ) → i ≤ 4 → ((j : ℕ) → j < i → (0 < key_word t (4 * h + j)) × (key_word t (4 * h + j) ≢ w)) → Passed t h w i
passed_up t h w zero le f = passed_none t h w
passed_up t h w (suc i) le f =
    let p : Passed t h w i = passed_up t h w i (omega arith) (λ j l. f j (omega arith)) in
    let e = met_entry_by t h w i (3 - i) (omega arith) (omega arith) p in
    let some : 0 < key_word t (4 * h + i) = (f i (omega arith)).0 in
    let up : i + 1 ≡ suc i = omega arith in
    let q : Passed t h w (i + 1) = e.past (f i (omega arith)).1 (omega arith) in
    rw up at q

pub found_in_bucket : (t : Table) (h i w : ℕ) → IsSound t → h < t.buckets → i < 4 → key_word t (4 * h + i) ≡ w → 0 < w → first_with t w (walk_of t h) ≡ Some (4 * h + i)
found_in_bucket t h i w s lt low e some =
    let others : (j : ℕ) → j < i → (0 < key_word t (4 * h + j)) × (key_word t (4 * h + j) ≢ w) = λ j l. (
      filled_below t h i s lt low (omega arith) j (omega arith),
      λ same. let one : 4 * h + j ≡ 4 * h + i = s.differ (4 * h + j) (4 * h + i) (omega arith) (omega arith) (omega arith) (same ∙ sym e) in absurd (omega arith),
    ) in
    let p : Passed t h w i = passed_up t h w i (omega arith) others in
    (met_entry_by t h w i (3 - i) (omega arith) low p).found e some

-- ---- chains

reach : (t : Table) (h w n : ℕ) → IsSound t → n < t.nodes → key_word t (4 * t.buckets + n) ≡ w → 0 < w
    → (ns : List ℕ) (j i : ℕ) → Left t h w j i → Leads t h j ns (t.buckets + n) → j ≢ t.buckets + n → first_with t w (chain_of t.nodes t h) ≡ Some (4 * t.buckets + n)
reach t h w n s low e some [] j i l r ne = absurd (ne r)
reach t h w n s low e some (m ∷ ns) j i l r ne =
    let link : link_word t j ≡ suc m = r.0.link in
    let lowm : m < t.nodes = r.0.low in
    let at : AtNode t h w i (suc m - 1) = left_node t h w j i (suc m) l link (λ z. absurd (omega arith)) in
    let one : suc m - 1 ≡ m = omega arith in
    let at' : AtNode t h w i m = rw one at at in
    elim (cases_eq (key_word t (4 * t.buckets + m)) w) [
      | inl same ↦ (
          let eq : 4 * t.buckets + m ≡ 4 * t.buckets + n = s.differ (4 * t.buckets + m) (4 * t.buckets + n) (omega arith) (omega arith) (omega arith) (same ∙ sym e) in
          at'.found same ∙ ap Some eq)
      | inr other ↦ reach t h w n s low e some ns (t.buckets + m) (i + 1) (at'.past other) r.1
          (λ same. let mn : m ≡ n = omega arith in other (ap (λ (x : ℕ). key_word t (4 * t.buckets + x)) mn ∙ e))
    ]

pub is_filled : (t : Table) (h : ℕ) → IsSound t → h < t.buckets → 0 < link_word t h → IsFilled t h
is_filled t h s lt f i l = filled_below t h 3 s lt (omega arith) (s.full h lt f) i (omega arith)

found_in_chain : (t : Table) (h n w : ℕ) → IsSound t → h < t.buckets → n < t.nodes → key_word t (4 * t.buckets + n) ≡ w → 0 < w
    → (ns : List ℕ) → Leads t h h ns (t.buckets + n) → first_with t w (walk_of t h) ≡ Some (4 * t.buckets + n)
found_in_chain t h n w s lt low e some [] r = let r' : h ≡ t.buckets + n = r in absurd (omega arith)
found_in_chain t h n w s lt low e some (m ∷ ns) r =
    let link : link_word t h ≡ suc m = r.0.link in
    let full : IsFilled t h = is_filled t h s lt (omega arith) in
    let others : (j : ℕ) → j < 4 → (0 < key_word t (4 * h + j)) × (key_word t (4 * h + j) ≢ w) = λ j l.
    (full j l, λ same. let one : 4 * h + j ≡ 4 * t.buckets + n = s.differ (4 * h + j) (4 * t.buckets + n) (omega arith) (omega arith) (full j l) (same ∙ sym e) in absurd (omega arith)) in
    sym (passed_all t h w (passed_up t h w 4 (omega arith) others))
    ∙ reach t h w n s low e some (m ∷ ns) h 0 (left_start t h w s lt) r (omega arith)

-- ---- both

pub low_home : (t : Table) (h i e : ℕ) → IsSound t → e ≡ 4 * h + i → i < 4 → h < t.buckets → 0 < key_word t e → home t.buckets (key_word t e) ≡ h
low_home t h i e s at low lt f = rw at (s.at_home h i lt low (rw at at f))

pub is_linked : (t : Table) (n : ℕ) → IsSound t → n < t.nodes → 0 < key_word t (4 * t.buckets + n) → n < t.linked
is_linked t n s low f =
    elim (cases_lt n t.linked) [
      | inl lt ↦ lt
      | inr ge ↦ (let z : key_word t (4 * t.buckets + n) ≡ 0 = (s.free n ge low).0 in absurd (omega arith))
    ]

pub found : (t : Table) (e w : ℕ) → IsSound t → e < entries_in t → key_word t e ≡ w → 0 < w → home t.buckets w < t.buckets → first_with t w (walk_of t (home t.buckets w)) ≡ Some e
found t e w s low is some at =
    elim (cases_lt e (4 * t.buckets)) [
      | inl lt ↦ (
          let h = e / 4 in
          let i = e % 4 in
          let split : e ≡ 4 * (e / 4) + e % 4 = omega arith in
          let hb : e / 4 < t.buckets = omega arith in
          let il : e % 4 < 4 = omega arith in
          let home_is : home t.buckets w ≡ e / 4 = ap (home t.buckets) (sym is) ∙ low_home t (e / 4) (e % 4) e s split il hb (omega arith) in
          rw home_is (found_in_bucket t (e / 4) (e % 4) w s hb il (ap (key_word t) (sym split) ∙ is) some ∙ ap Some (sym split)))
      | inr ge ↦ (
          let n = e - 4 * t.buckets in
          let split : e ≡ 4 * t.buckets + (e - 4 * t.buckets) = omega arith in
          let lown : e - 4 * t.buckets < t.nodes = omega arith in
          let isn : key_word t (4 * t.buckets + (e - 4 * t.buckets)) ≡ w = ap (key_word t) (sym split) ∙ is in
          let r = s.reached (e - 4 * t.buckets) (is_linked t (e - 4 * t.buckets) s lown (omega arith)) (λ h. h) in
          let P : ℕ → Type 0 = λ x. Leads t (home t.buckets x) (home t.buckets x) r.0 (t.buckets + (e - 4 * t.buckets)) in
          let lead : Leads t (home t.buckets w) (home t.buckets w) r.0 (t.buckets + (e - 4 * t.buckets)) = subst P isn r.1 in
          found_in_chain t (home t.buckets w) (e - 4 * t.buckets) w s at lown isn some r.0 lead ∙ ap Some (sym split))
    ]

-- a word that the walk does not find is nowhere
pub nowhere : (t : Table) (w : ℕ) → IsSound t → 0 < w → home t.buckets w < t.buckets → first_with t w (walk_of t (home t.buckets w)) ≡ None → (d : ℕ) → d < entries_in t → key_word t d ≢ w
nowhere t w s some at none d low is = let e : Some d ≡ None = sym (found t d w s low is some at) ∙ none in absurd (cc)

-- what the walk finds has the word
pub first_has : (t : Table) (w e : ℕ) (es : List ℕ) → first_with t w es ≡ Some e → key_word t e ≡ w
unfolding first_with
first_has t w e [] h = absurd (cc)
first_has t w e (x ∷ es) h =
    elim (cases_eq (key_word t x) w) [
      | inl same ↦ (let eq : Some x ≡ Some e = sym (first_here t w x es same) ∙ h in let one : x ≡ e = cc in rw (← one) same)
      | inr other ↦ first_has t w e es (sym (first_later t w x es other) ∙ h)
    ]
