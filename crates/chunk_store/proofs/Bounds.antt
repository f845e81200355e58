-- A store holds at most 2^48 blocks, one for each key of 16 bits a coordinate.
use Rattle.std.proofs.Common.{◌≡◌, ℕ, ◌+◌, ◌<◌, ◌≤◌, ◌^◌, T, List, [], ◌∷◌, length, map, true, false, ◌&&◌, ◌||◌, refl, sym, ap, ◌∙◌, arith, inl, inr, subst}
use Rattle.std.specs.Prelude.{Bool, Option, Some, None, is_some, nat_lt, ◌==◌}
use Rattle.std.specs.Option.{option_and_then, option_map}
use Rattle.std.specs.List.{AllByRecursion, IsDistinct, list_any}
use Rattle.std.specs.List.Sorted.{IsStrictlySortedBy}
use Rattle.std.specs.Map.{keys_of, lookup}
use Rattle.std.specs.Ordering.{is_lt}
use Rattle.std.specs.declared.cmp.Ordering.{Ordering}
use Rattle.std.specs.declared.cmp.Ordering.TheVariants.{Less, Equal, Greater}
use Rattle.std.specs.FinMap.{FinMap, contains_key-keys, entries, entries_sorted, is_sorted, keys, len, len-entries}
use Rattle.std.specs.FinMap.Entries.{below_all}
use Rattle.std.proofs.Math.Dec.{eqb}
use Rattle.std.proofs.lemmas.Bool.{cases_Bool, cond-true, eqb-true, false_from_ne_true, ltb-false, or_parts}
use Rattle.std.proofs.lemmas.List.{length-map}
use Rattle.std.proofs.lemmas.Map.Keys.{IsDistinct-from_sorted}
use Rattle.std.proofs.lemmas.Map.Steps.{length-le_from_distinct_below}
use Rattle.voxel_block.specs.declared.key.BlockKey.{BlockKey}
use Rattle.voxel_block.specs.Chunks.{chunk_of}
use Rattle.voxel_block.specs.Keys.{key_cmp, same_key}
use Rattle.voxel_block.specs.Words.{key_of, word_of}
use Rattle.voxel_block.proofs.KeyLaws.{key_itself}
use Rattle.chunk_store.specs.Rows.{Held, IsRow, Row, bytes_in, chunk_eq, held_at, place_of}
use Rattle.chunk_store.specs.Changes.{Rows}
use Rattle.chunk_store.specs.Store.{IsStore, contents_of}
use Rattle.chunk_store.proofs.Axes.{same_block}
use Rattle.chunk_store.proofs.Contents.{get_contents}

-- ---- the keys of a map rise

both : (a b : Bool) → T (a && b) → T a × T b
both true true h = (tt, tt)
both true false h = absurd h
both false b h = absurd h

is_less : (o : Ordering) → T (is_lt o) → o ≡ Less
is_less Less h = refl
is_less Equal h = absurd h
is_less Greater h = absurd h

module _ {X : Type 0} where
  all_above : (x : BlockKey) (es : List (BlockKey × X)) → T (below_all key_cmp x es) → AllByRecursion (λ y. key_cmp x y ≡ Less) (keys_of es)
  all_above x [] h = tt
  all_above x (e ∷ es) h = let p = both (is_lt (key_cmp x e.0)) _ h in (is_less (key_cmp x e.0) p.0, all_above x es p.1)

  rising : (es : List (BlockKey × X)) → T (is_sorted key_cmp es) → IsStrictlySortedBy key_cmp (keys_of es)
  unfolding IsStrictlySortedBy
  rising [] h = tt
  rising (e ∷ es) h = let p = both (below_all key_cmp e.0 es) _ h in (all_above e.0 es p.0, rising es p.1)

  pub keys_rise : (m : FinMap key_cmp X) → IsStrictlySortedBy key_cmp (keys m)
  keys_rise m = rising (entries m) (entries_sorted m)

-- ---- the words of keys

low_word : (w : ℕ) (k : BlockKey) → key_of w ≡ Some k → w ≤ 2 ^ 48
low_word w k h =
    elim (cases_Bool (w == 0 || nat_lt (2 ^ 48) w)) [
      | inl t ↦ (let e : ◌≡◌ {A = Option BlockKey} None (Some k) = sym (cond-true (w == 0 || nat_lt (2 ^ 48) w) _ _ t) ∙ h in absurd (cc))
      | inr f ↦ not_above (or_parts (w == 0) (nat_lt (2 ^ 48) w) f).1
    ]
  where
    not_above : nat_lt (2 ^ 48) w ≡ false → w ≤ 2 ^ 48
    not_above f = ltb-false (2 ^ 48) w f

abbrev IsShort : BlockKey → Type 0
IsShort k = key_of (word_of k) ≡ Some k

all_in : (P : BlockKey → Type 0) (ks : List BlockKey) → ((k : BlockKey) → list_any (same_key k) ks ≡ true → P k) → AllByRecursion P ks
all_in P [] f = tt
all_in P (k ∷ ks) f = (f k (ap (λ b. b || list_any (same_key k) ks) (key_itself k)), all_in P ks (λ q h. f q (ap (λ b. same_key q k || b) h ∙ or_true (same_key q k))))
  where
    or_true : (b : Bool) → (b || true) ≡ true
    or_true true = refl
    or_true false = refl

apart : (k : BlockKey) (ks : List BlockKey) → IsShort k → AllByRecursion IsShort ks → AllByRecursion (λ y. same_key k y ≡ false) ks → AllByRecursion (λ w. eqb (word_of k) w ≡ false) (map word_of ks)
apart k [] s all ne = tt
apart k (y ∷ ys) s all ne = (
  false_from_ne_true _ (λ t.
      let w : word_of k ≡ word_of y = eqb-true (word_of k) (word_of y) t in
      let e : Some k ≡ Some y = sym s ∙ ap key_of w ∙ all.0 in
      let one : k ≡ y = cc in
      let z : false ≡ true = sym ne.0 ∙ ap (same_key k) (sym one) ∙ key_itself k in absurd (cc)),
  apart k ys s all.1 ne.1,
)

words_distinct : (ks : List BlockKey) → AllByRecursion IsShort ks → IsDistinct same_key ks → IsDistinct eqb (map word_of ks)
unfolding IsDistinct
words_distinct [] all d = tt
words_distinct (k ∷ ks) all d = (apart k ks all.0 all.1 d.0, words_distinct ks all.1 d.1)

words_low : (n : ℕ) → n ≡ 2 ^ 48 + 1 → (ks : List BlockKey) → AllByRecursion IsShort ks → (q : ℕ) → list_any (eqb q) (map word_of ks) ≡ true → q < n
words_low n is [] all q h = absurd (cc)
words_low n is (k ∷ ks) all q h =
    elim (cases_Bool (eqb q (word_of k))) [
      | inl t ↦ (let e : q ≡ word_of k = eqb-true q (word_of k) t in let l : word_of k ≤ 2 ^ 48 = low_word (word_of k) k all.0 in omega arith)
      | inr f ↦ words_low n is ks all.1 q (ap (λ b. b || list_any (eqb q) (map word_of ks)) (sym f) ∙ h)
    ]

-- so many keys there are at most
few_keys : (n : ℕ) → n ≡ 2 ^ 48 + 1 → (ks : List BlockKey) → AllByRecursion IsShort ks → IsDistinct same_key ks → length ks ≤ n
few_keys n is ks all d = let l = length-le_from_distinct_below (map word_of ks) n (words_distinct ks all d) (words_low n is ks all) in let m : length (map word_of ks) ≡ length ks = length-map ks word_of in omega arith

-- ---- the keys of a store

short_by : (q : BlockKey) (o : Option Row) → ((row : Row) → o ≡ Some row → IsRow (chunk_of q) row) → is_some (option_and_then (λ row. bytes_in row q) o) ≡ true → IsShort q
short_by q None r h = absurd (cc)
short_by q (Some row) r h = at (held_at row (place_of q)) refl h
  where
    at : (place : Option Held) → held_at row (place_of q) ≡ place → is_some (option_map (λ x. x.1) place) ≡ true → IsShort q
    at None e t = absurd (cc)
    at (Some x) e t =
        let k = r row refl (place_of q) x e in
        subst IsShort (same_block x.0 q k.chunk k.place) k.word

pub few_blocks : (es : Rows) (n : ℕ) → IsStore es n → n ≤ 2 ^ 48 + 1
few_blocks es n s =
    let m = contents_of es in
    let short : AllByRecursion IsShort (keys m) = all_in IsShort (keys m) (λ q h. short_by q (lookup (chunk_eq (chunk_of q)) es) (s.rows (chunk_of q)) (ap is_some (sym (get_contents es q s.unique s.rows)) ∙ contains_key-keys m q ∙ h)) in
    let l = few_keys (2 ^ 48 + 1) refl (keys m) short (IsDistinct-from_sorted key_cmp (keys m) (keys_rise m)) in
    let c : n ≡ len m = s.count in
    let d : len m ≡ length (entries m) = len-entries m in
    let e : length (keys m) ≡ length (entries m) = length-map (entries m) (λ x. x.0) in
    omega arith
