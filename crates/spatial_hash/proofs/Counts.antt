-- A table has no more linked nodes than keys.
use Rattle.std.proofs.Common.{◌≡◌, ℕ, zero, suc, ◌+◌, ◌-◌, ◌*◌, ◌<◌, ◌≤◌, List, [], ◌∷◌, length, refl, ap, ◌∙◌, arith, inl, inr, subst, false}
use Rattle.voxel_block.specs.declared.key.BlockKey.{BlockKey}
use Rattle.std.proofs.lemmas.Bool.{cases_lt, false≢true}
use Rattle.spatial_hash.specs.Table.{Table, entries_in, key_word}
use Rattle.spatial_hash.specs.Sound.{IsSound}
use Rattle.std.specs.Prelude.{None, Option}
use Rattle.std.specs.Option.{IsSome}
use Rattle.std.specs.List.{IsDistinct}
use Rattle.std.specs.FinMap.{from_entries, get, find, insert, contains_key, get-from_entries, len, len-empty}
use Rattle.std.specs.List.{AllByRecursion}
use Rattle.std.specs.Option.{is_some}
use Rattle.std.proofs.lemmas.Map.Keys.{IsDistinct-head, IsDistinct-tail}
use Rattle.std.proofs.lemmas.Bool.{cond-false}
use Rattle.voxel_block.specs.Keys.{key_cmp, same_key}
use Rattle.voxel_block.specs.Words.{key_of}
use Rattle.voxel_block.proofs.KeyLaws.{keys_total, len_put}
use Rattle.voxel_block.proofs.WordLaws.{is_key_word}
use Rattle.spatial_hash.specs.Contents.{contents, pairs_from, tied}
use Rattle.spatial_hash.proofs.Maps.{cases_option, pairs_none, pairs_some}
use Rattle.spatial_hash.proofs.Sorted.{Pair, pairs_distinct}

some_key : (t : Table) (e : ℕ) → IsSound t → e < entries_in t → 0 < key_word t e → key_of (key_word t e) ≡ None → ⊥
some_key t e s lt f none = let P : Option BlockKey → Type 0 = IsSome in let h : IsSome {T = BlockKey} None = subst P none (is_key_word (key_word t e) f (s.named e lt)) in absurd (false≢true h)

count_nodes : (t : Table) (m e : ℕ) → IsSound t → e + m ≡ entries_in t → t.linked ≤ length (pairs_from m t e) + (e - 4 * t.buckets)
count_nodes t zero e s is = let l : t.linked ≤ t.nodes = s.few_linked in omega arith
count_nodes t (suc m) e s is =
    let rest : t.linked ≤ length (pairs_from m t (e + 1)) + (e + 1 - 4 * t.buckets) = count_nodes t m (e + 1) s (omega arith) in
    elim (cases_option (key_of (key_word t e))) [
      | inl none ↦ (
          let l : length (pairs_from (suc m) t e) ≡ length (pairs_from m t (e + 1)) = ap length (pairs_none m t e none) in
          elim (cases_lt e (4 * t.buckets)) [
            | inl below ↦ omega arith
            | inr above ↦ elim (cases_lt (e - 4 * t.buckets) t.linked) [
              | inl linked ↦ (
                  let f : 0 < key_word t (4 * t.buckets + (e - 4 * t.buckets)) = s.placed (e - 4 * t.buckets) linked (λ h. h) in
                  let same : 4 * t.buckets + (e - 4 * t.buckets) ≡ e = omega arith in
                  let g : 0 < key_word t e = rw same at f in
                  absurd (some_key t e s (omega arith) g none))
              | inr free ↦ omega arith
            ]
          ])
      | inr some ↦ (let l : length (pairs_from (suc m) t e) ≡ suc (length (pairs_from m t (e + 1))) = ap length (pairs_some m t e some.0 some.1) in omega arith)
    ]

none_tied : (e : Pair) (es : List Pair) → AllByRecursion (λ y. tied e y ≡ false) es → find key_cmp e.0 es ≡ None
none_tied e [] a = refl
none_tied e (x ∷ es) a = cond-false (same_key e.0 x.0) _ _ a.0 ∙ none_tied e es a.1

len_from : (es : List Pair) → IsDistinct tied es → len (from_entries {R = key_cmp} es) ≡ length es
len_from [] d = len-empty key_cmp ℕ
len_from (e ∷ es) d =
    let rest : len (from_entries {R = key_cmp} es) ≡ length es = len_from es (IsDistinct-tail tied e es d) in
    let none : get (from_entries {R = key_cmp} es) e.0 ≡ None = get-from_entries keys_total es e.0 ∙ none_tied e es (IsDistinct-head tied e es d) in
    let new : contains_key (from_entries {R = key_cmp} es) e.0 ≡ false = ap is_some none in
    let l : len (insert (from_entries {R = key_cmp} es) e.0 e.1) ≡ len (from_entries {R = key_cmp} es) + 1 = len_put (from_entries es) e.0 e.1 new in
    omega arith

pub linked_few : (t : Table) → IsSound t → t.linked ≤ len (contents t)
unfolding contents
linked_few t s =
    let l : len (from_entries {R = key_cmp} (pairs_from (entries_in t) t 0)) ≡ length (pairs_from (entries_in t) t 0) = len_from (pairs_from (entries_in t) t 0) (pairs_distinct (entries_in t) t 0 s (omega arith)) in
    let c : t.linked ≤ length (pairs_from (entries_in t) t 0) + (0 - 4 * t.buckets) = count_nodes t (entries_in t) 0 s (omega arith) in
    omega arith

-- a table has as many keys as filled entries
pub len_contents : (t : Table) → IsSound t → len (contents t) ≡ length (pairs_from (entries_in t) t 0)
unfolding contents
len_contents t s = len_from (pairs_from (entries_in t) t 0) (pairs_distinct (entries_in t) t 0 s (omega arith))
