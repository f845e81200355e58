-- The map of a table, entry by entry.
use Rattle.std.proofs.Common.{◌≡◌, ◌≢◌, ℕ, zero, suc, ◌+◌, ◌*◌, ◌<◌, ◌≤◌, ◌∷◌, true, false, refl, sym, ap, ◌∙◌, arith, inl, inr, cond, subst}
use Rattle.std.specs.Prelude.{Some, None, Option, ◌⊎◌, slice_index}
use Rattle.std.specs.Option.{option_map}
use Rattle.std.specs.List.{cons_option}
use Rattle.std.specs.FinMap.{get, find, insert, remove, same_map, get-from_entries}
use Rattle.std.proofs.lemmas.Bool.{cases_eq, cond-true, cond-false}
use Rattle.voxel_block.specs.declared.key.BlockKey.{BlockKey}
use Rattle.voxel_block.specs.Keys.{key_cmp, same_key}
use Rattle.voxel_block.specs.Words.{word_of, key_of}
use Rattle.voxel_block.proofs.KeyLaws.{by_key, exact_keys, gone_elsewhere, gone_here, key_itself, keys_total, other_key, put_elsewhere, put_here}
use Rattle.voxel_block.proofs.WordLaws.{word_of_read}
use Rattle.spatial_hash.specs.Table.{Table, entries_in, key_word}
use Rattle.spatial_hash.specs.Contents.{pairs_from, contents}

-- ---- a list of pairs

pub pairs_none : (m : ℕ) (t : Table) (e : ℕ) → key_of (key_word t e) ≡ None → pairs_from (suc m) t e ≡ pairs_from m t (e + 1)
unfolding pairs_from
pairs_none m t e h = ap (λ (o : Option BlockKey). cons_option (option_map (λ k. (k, slice_index t.cells e)) o) (pairs_from m t (e + 1))) h

pub pairs_some : (m : ℕ) (t : Table) (e : ℕ) (k : BlockKey) → key_of (key_word t e) ≡ Some k → pairs_from (suc m) t e ≡ (k, slice_index t.cells e) ∷ pairs_from m t (e + 1)
unfolding pairs_from
pairs_some m t e k h = ap (λ (o : Option BlockKey). cons_option (option_map (λ k. (k, slice_index t.cells e)) o) (pairs_from m t (e + 1))) h

pub cases_option : {X : Type 0} (o : Option X) → (o ≡ None) ⊎ ((x : X) × (o ≡ Some x))
cases_option None = inl refl
cases_option (Some x) = inr (x, refl)

cases_key : (a b : BlockKey) → (a ≡ b) ⊎ ((a ≢ b) × (same_key a b ≡ false))
cases_key a b = by_key a b inl (λ other. inr (other, other_key a b other))

-- entry d, among m from e on, has the key q with the cell c
pub record Stands (m : ℕ) (t : Table) (e : ℕ) (q : BlockKey) (c : ℕ) : Type 0 where
  pub at : ℕ
  pub from : e ≤ at
  pub below : at < e + m
  pub key : key_of (key_word t at) ≡ Some q
  pub cell : slice_index t.cells at ≡ c

pub later : (m : ℕ) (t : Table) (e : ℕ) (q : BlockKey) (c : ℕ) → Stands m t (e + 1) q c → Stands (suc m) t e q c
later m t e q c s = let f : e + 1 ≤ s.at = s.from in let b : s.at < e + 1 + m = s.below in record { at = s.at; from = omega arith; below = omega arith; key = s.key; cell = s.cell }

stands_from : (m : ℕ) (t : Table) (e : ℕ) (q : BlockKey) (c : ℕ) → find key_cmp q (pairs_from m t e) ≡ Some c → Stands m t e q c
unfolding pairs_from
stands_from zero t e q c h = let h' : ◌≡◌ {A = Option ℕ} None (Some c) = h in absurd (cc)
stands_from (suc m) t e q c h =
    elim (cases_option (key_of (key_word t e))) [
      | inl none ↦ later m t e q c (stands_from m t (e + 1) q c (ap (find key_cmp q) (sym (pairs_none m t e none)) ∙ h))
      | inr some ↦ (
          let h2 : cond (same_key q some.0) (Some (slice_index t.cells e)) (find key_cmp q (pairs_from m t (e + 1))) ≡ Some c = ap (find key_cmp q) (sym (pairs_some m t e some.0 some.1)) ∙ h in
          elim (cases_key q some.0) [
            | inl same ↦ (
                let yes : same_key q some.0 ≡ true = ap (same_key q) (sym same) ∙ key_itself q in
                let h3 : Some (slice_index t.cells e) ≡ Some c = sym (cond-true (same_key q some.0) _ _ yes) ∙ h2 in
                let h4 : slice_index t.cells e ≡ c = cc in
                record { at = e; from = omega arith; below = omega arith; key = some.1 ∙ ap Some (sym same); cell = h4 })
            | inr other ↦ later m t e q c (stands_from m t (e + 1) q c (sym (cond-false (same_key q some.0) _ _ other.1) ∙ h2))
          ])
    ]

-- where one entry alone has a key, its cell is found
found_pair : (m : ℕ) (t : Table) (e d : ℕ) (q : BlockKey) → e ≤ d → d < e + m → key_of (key_word t d) ≡ Some q
    → ((x : ℕ) → e ≤ x → x < e + m → key_of (key_word t x) ≡ Some q → x ≡ d) → find key_cmp q (pairs_from m t e) ≡ Some (slice_index t.cells d)
found_pair zero t e d q le lt k one = absurd (omega arith)
found_pair (suc m) t e d q le lt k one =
    elim (cases_eq e d) [
      | inl ed ↦ (
          let ke : key_of (key_word t e) ≡ Some q = ap (λ (x : ℕ). key_of (key_word t x)) ed ∙ k in
          ap (find key_cmp q) (pairs_some m t e q ke) ∙ cond-true (same_key q q) _ _ (key_itself q) ∙ ap (λ (x : ℕ). Some (slice_index t.cells x)) ed)
      | inr ne ↦ (
          let rest : find key_cmp q (pairs_from m t (e + 1)) ≡ Some (slice_index t.cells d) = found_pair m t (e + 1) d q (omega arith) (omega arith) k (λ x a b. one x (omega arith) (omega arith)) in
          elim (cases_option (key_of (key_word t e))) [
            | inl none ↦ ap (find key_cmp q) (pairs_none m t e none) ∙ rest
            | inr some ↦ elim (cases_key q some.0) [
              | inl same ↦ absurd (ne (one e (omega arith) (omega arith) (some.1 ∙ ap Some (sym same))))
              | inr other ↦ ap (find key_cmp q) (pairs_some m t e some.0 some.1) ∙ cond-false (same_key q some.0) _ _ other.1 ∙ rest
            ]
          ])
    ]

-- ---- a table

-- an entry has the key q with the cell c
pub record Has (t : Table) (q : BlockKey) (c : ℕ) : Type 0 where
  pub at : ℕ
  pub low : at < entries_in t
  pub key : key_of (key_word t at) ≡ Some q
  pub cell : slice_index t.cells at ≡ c

-- filled entries have different words
abbrev pub Unlike : Table → Type 0
Unlike t = (d e : ℕ) → d < entries_in t → e < entries_in t → 0 < key_word t d → key_word t d ≡ key_word t e → d ≡ e

pub one_entry : (t : Table) (q : BlockKey) (d e : ℕ) → Unlike t → d < entries_in t → e < entries_in t → key_of (key_word t d) ≡ Some q → key_of (key_word t e) ≡ Some q → d ≡ e
one_entry t q d e s ld le kd ke =
    let wd : word_of q ≡ key_word t d = word_of_read (key_word t d) q kd in
    let we : word_of q ≡ key_word t e = word_of_read (key_word t e) q ke in
    s d e ld le (omega arith) (sym wd ∙ we)

pub get_has : (t : Table) (q : BlockKey) (c : ℕ) → Unlike t → Has t q c → get (contents t) q ≡ Some c
unfolding contents
get_has t q c s h =
    get-from_entries keys_total (pairs_from (entries_in t) t 0) q
    ∙ (let l : h.at < entries_in t = h.low in found_pair (entries_in t) t 0 h.at q (omega arith) (omega arith) h.key (λ x a b k. one_entry t q x h.at s (omega arith) h.low k h.key))
    ∙ ap Some h.cell

pub has_get : (t : Table) (q : BlockKey) (c : ℕ) → get (contents t) q ≡ Some c → Has t q c
unfolding contents
has_get t q c h =
    let s = stands_from (entries_in t) t 0 q c (sym (get-from_entries keys_total (pairs_from (entries_in t) t 0) q) ∙ h) in
    let b : s.at < 0 + (4 * t.buckets + t.nodes) = s.below in
    record { at = s.at; low = omega arith; key = s.key; cell = s.cell }

pub same_options : {X : Type 0} (o p : Option X) → ((x : X) → o ≡ Some x → p ≡ Some x) → ((x : X) → p ≡ Some x → o ≡ Some x) → o ≡ p
same_options None None f g = refl
same_options None (Some x) f g = g x refl
same_options (Some x) p f g = sym (f x refl)

-- the same keys and cells
pub contents_same : (t u : Table) → Unlike t → Unlike u → ((q : BlockKey) (x : ℕ) → Has t q x → Has u q x) → ((q : BlockKey) (x : ℕ) → Has u q x → Has t q x) → contents u ≡ contents t
contents_same t u s v to back =
    same_map keys_total exact_keys (contents u) (contents t) (λ q.
    same_options (get (contents u) q) (get (contents t) q) (λ x h. get_has t q x s (back q x (has_get u q x h))) (λ x h. get_has u q x v (to q x (has_get t q x h))))

-- one key is added, or has another cell
pub contents_put : (t u : Table) (k : BlockKey) (c : ℕ) → Unlike t → Unlike u → Has u k c
    → ((q : BlockKey) (x : ℕ) → q ≢ k → Has t q x → Has u q x) → ((q : BlockKey) (x : ℕ) → q ≢ k → Has u q x → Has t q x)
    → contents u ≡ insert (contents t) k c
contents_put t u k c s v here to back =
    same_map keys_total exact_keys (contents u) (insert (contents t) k c) (λ q.
    by_key q k
    (λ same. let P : BlockKey → Type 0 = λ x. get (contents u) x ≡ get (insert (contents t) k c) x in
    subst P (sym same) (get_has u k c v here ∙ sym (put_here (contents t) k c)))
    (λ other.
    same_options (get (contents u) q) (get (contents t) q) (λ x h. get_has t q x s (back q x other (has_get u q x h))) (λ x h. get_has u q x v (to q x other (has_get t q x h)))
    ∙ sym (put_elsewhere (contents t) k q c other)))

-- one key is removed
pub contents_drop : (t u : Table) (k : BlockKey) → Unlike t → Unlike u
    → ((q : BlockKey) (x : ℕ) → q ≢ k → Has t q x → Has u q x) → ((q : BlockKey) (x : ℕ) → Has u q x → (q ≢ k) × Has t q x)
    → contents u ≡ remove (contents t) k
contents_drop t u k s v to back =
    same_map keys_total exact_keys (contents u) (remove (contents t) k) (λ q.
    by_key q k
    (λ same. let P : BlockKey → Type 0 = λ x. get (contents u) x ≡ get (remove (contents t) k) x in
    subst P (sym same) (same_options (get (contents u) k) None (λ x h. absurd ((back k x (has_get u k x h)).0 refl)) (λ x h. absurd (cc)) ∙ sym (gone_here (contents t) k)))
    (λ other.
    same_options (get (contents u) q) (get (contents t) q) (λ x h. get_has t q x s (back q x (has_get u q x h)).1) (λ x h. get_has u q x v (to q x other (has_get t q x h)))
    ∙ sym (gone_elsewhere (contents t) k q other)))

-- an entry that was free takes a key, and the others stay
pub record Takes (t u : Table) (e : ℕ) (k : BlockKey) (c : ℕ) : Type 0 where
  pub low : e < entries_in t
  pub sized : entries_in u ≡ entries_in t
  pub free : key_of (key_word t e) ≡ None
  pub key : key_of (key_word u e) ≡ Some k
  pub cell : slice_index u.cells e ≡ c
  pub others : (d : ℕ) → d < entries_in t → d ≢ e → (key_word u d ≡ key_word t d) × (slice_index u.cells d ≡ slice_index t.cells d)

pub contents_taken : (t u : Table) (e : ℕ) (k : BlockKey) (c : ℕ) → Unlike t → Unlike u → Takes t u e k c → contents u ≡ insert (contents t) k c
contents_taken t u e k c s v x =
    let lowe : e < entries_in t = x.low in
    let same : entries_in u ≡ entries_in t = x.sized in
    contents_put t u k c s v (record { at = e; low = rw same lowe; key = x.key; cell = x.cell })
    (λ q y ne h.
    let ot = x.others h.at h.low (λ he. (let z : ◌≡◌ None (Some q) = sym x.free ∙ ap (λ (d : ℕ). key_of (key_word t d)) (sym he) ∙ h.key in absurd (cc))) in
    let lowh : h.at < entries_in t = h.low in
    record { at = h.at; low = rw same lowh; key = ap key_of ot.0 ∙ h.key; cell = ot.1 ∙ h.cell })
    (λ q y ne h.
    let lowh : h.at < entries_in u = h.low in
    let lowt : h.at < entries_in t = rw same at lowh in
    let ot = x.others h.at lowt (λ he. (let z : Some k ≡ Some q = sym x.key ∙ ap (λ (d : ℕ). key_of (key_word u d)) (sym he) ∙ h.key in let z2 : q ≡ k = cc in ne z2)) in
    record { at = h.at; low = lowt; key = ap key_of (sym ot.0) ∙ h.key; cell = sym ot.1 ∙ h.cell })

-- a key that no entry has
pub get_none : (t : Table) (q : BlockKey) → ((d : ℕ) → d < entries_in t → key_word t d ≢ word_of q) → get (contents t) q ≡ None
get_none t q h =
    same_options (get (contents t) q) None (λ x e. (let s = has_get t q x e in absurd (h s.at s.low (sym (word_of_read (key_word t s.at) q s.key))))) (λ x e. absurd (cc))
