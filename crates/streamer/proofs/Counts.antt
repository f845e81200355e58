-- How many known keys pass a test: those in the heap and those in the store.
use Rattle.std.proofs.Common.{◌≡◌, ◌+◌, Bool, true, false, cond, ◌||◌, List, [], ◌∷◌, ◌++◌, map, length, refl, sym, ap, subst, ◌∙◌, arith}
use Rattle.std.specs.Prelude.{is_some}
use Rattle.std.specs.List.{AllByRecursion, IsDistinct, count_by, list_any}
use Rattle.std.specs.Ordering.{eq_by_cmp, is_eq}
use Rattle.std.specs.declared.cmp.Ordering.{Ordering}
use Rattle.std.specs.declared.cmp.Ordering.TheVariants.{Less, Equal, Greater}
use Rattle.std.specs.FinMap.{FinMap, contains_key, entries, find, from_entries, insert, keys, len, len-entries, contains_key-keys, entries-insert, get-entries, get-from_entries}
use Rattle.std.specs.FinMap.Entries.{by_order, is_some-find, put}
use Rattle.std.proofs.lemmas.List.{length-map}
use Rattle.std.proofs.lemmas.List.Sums.{sum_by-append, sum_by-cons}
use Rattle.std.proofs.lemmas.Map.Keys.{IsDistinct-cons, IsDistinct-head, IsDistinct-IsPermutation, IsDistinct-tail}
use Rattle.voxel_block.specs.declared.key.BlockKey.{BlockKey}
use Rattle.voxel_block.specs.Keys.{key_cmp, same_key}
use Rattle.voxel_block.proofs.KeyLaws.{key_itself, keys_total}
use Rattle.spatial_hash.specs.Contents.{contents}
use Rattle.streamer.specs.Owners.{block_in}
use Rattle.voxel_block.specs.Packing.{voxels_in}
use Rattle.std.specs.Cmp.{eq_by_cmp_equiv}
use Rattle.std.specs.List.Sorted.{IsPermutation, IsSorted}
use Rattle.std.proofs.lemmas.List.Folds.{list_any-append}
use Rattle.std.proofs.lemmas.List.Sorted.{list_any-IsPermutation}
use Rattle.chunk_store.proofs.Bounds.{keys_rise}
use Rattle.chunk_store.proofs.Folding.{first_apart, later_apart, no_entries, none_among}
use Rattle.chunk_store.proofs.Listing.{in_order, same_list}
use Rattle.streamer.proofs.Blocks.{has-blocks}
use Rattle.voxel_block.proofs.DistinctKeys.{distinct_keys}
use Rattle.streamer.specs.Places.{IsPlaced, Places, blocks_of, resident_blocks, stored_blocks}

abbrev keys_in : {X : Type 0} → List (BlockKey × X) → List BlockKey
keys_in es = map (λ e. e.0) es

count_by-cons : (test : BlockKey → Bool) (x : BlockKey) (xs : List BlockKey) → count_by test (x ∷ xs) ≡ cond (test x) 1 0 + count_by test xs
count_by-cons test x xs = sum_by-cons (λ y. cond (test y) 1 0) x xs

module _ (test : BlockKey → Bool) {X : Type 0} where
  counted : (o : Ordering) (k : BlockKey) (v : X) (e : BlockKey × X) (es fs : List (BlockKey × X)) → is_eq o ≡ false → count_by test (keys_in fs) ≡ cond (test k) 1 0 + count_by test (keys_in es)
      → count_by test (keys_in (by_order o ((k, v) ∷ e ∷ es) ((e.0, v) ∷ es) (e ∷ fs))) ≡ cond (test k) 1 0 + count_by test (keys_in (e ∷ es))
  counted Less k v e es fs apart rest = count_by-cons test k (keys_in (e ∷ es))
  counted Equal k v e es fs apart rest = absurd (cc)
  counted Greater k v e es fs apart rest =
      let a : count_by test (keys_in (e ∷ fs)) ≡ cond (test e.0) 1 0 + count_by test (keys_in fs) = count_by-cons test e.0 (keys_in fs) in
      let b : count_by test (keys_in (e ∷ es)) ≡ cond (test e.0) 1 0 + count_by test (keys_in es) = count_by-cons test e.0 (keys_in es) in
      omega (arith, a, b, rest)

  count_put : (k : BlockKey) (v : X) (es : List (BlockKey × X)) → is_some (find key_cmp k es) ≡ false → count_by test (keys_in (put key_cmp k v es)) ≡ cond (test k) 1 0 + count_by test (keys_in es)
  count_put k v [] new = count_by-cons test k []
  count_put k v (e ∷ es) new = counted (key_cmp k e.0) k v e es (put key_cmp k v es)
      (first_apart (eq_by_cmp key_cmp k e.0) e.1 (find key_cmp k es) new)
      (count_put k v es (later_apart (eq_by_cmp key_cmp k e.0) e.1 (find key_cmp k es) new))

  -- a new key is counted, and the others as before
  pub count_insert : (m : FinMap key_cmp X) (k : BlockKey) (v : X) → contains_key m k ≡ false → count_by test (keys (insert m k v)) ≡ cond (test k) 1 0 + count_by test (keys m)
  count_insert m k v new = ap (λ es. count_by test (keys_in es)) (entries-insert keys_total m k v) ∙ count_put k v (entries m) (ap is_some (sym (get-entries m k)) ∙ new)

  -- the map of entries whose keys differ has just these keys
  pub count_entries : (es : List (BlockKey × X)) → IsDistinct same_key (keys_in es) → count_by test (keys (from_entries {R = key_cmp} es)) ≡ count_by test (keys_in es)
  count_entries [] d = ap (λ es. count_by test (keys_in es)) (no_entries X)
  count_entries (e ∷ es) d =
      count_insert (from_entries es) e.0 e.1 (ap is_some (get-from_entries keys_total es e.0) ∙ is_some-find key_cmp e.0 es ∙ none_among e.0 (keys_in es) (IsDistinct-head same_key _ _ d))
      ∙ ap (λ n. cond (test e.0) 1 0 + n) (count_entries es (IsDistinct-tail same_key _ _ d))
      ∙ sym (count_by-cons test e.0 (keys_in es))

-- ---- lists of keys

or_first : (a b : Bool) → (a || b) ≡ false → a ≡ false
or_first true b e = absurd (cc)
or_first false b e = refl

or_second : (a b : Bool) → (a || b) ≡ false → b ≡ false
or_second true b e = absurd (cc)
or_second false b e = e

-- two lists of keys that differ, and share none
pub distinct-both : (ks ls : List BlockKey) → IsDistinct same_key ks → IsDistinct same_key ls → ((q : BlockKey) → list_any (same_key q) ks ≡ true → list_any (same_key q) ls ≡ false) → IsDistinct same_key (ks ++ ls)
distinct-both [] ls dk dl apart = dl
distinct-both (k ∷ ks) ls dk dl apart = IsDistinct-cons same_key _ _
    (all-both (λ y. same_key k y ≡ false) ks ls (IsDistinct-head same_key _ _ dk) (none_below k ls (apart k (ap (λ b. b || list_any (same_key k) ks) (key_itself k)))))
    (distinct-both ks ls (IsDistinct-tail same_key _ _ dk) dl (λ q e. apart q (or_right (same_key q k) (list_any (same_key q) ks) e)))
  where
    or_right : (a b : Bool) → b ≡ true → (a || b) ≡ true
    or_right true b e = refl
    or_right false b e = e

    none_below : (x : BlockKey) (ys : List BlockKey) → list_any (same_key x) ys ≡ false → AllByRecursion (λ y. same_key x y ≡ false) ys
    none_below x [] e = tt
    none_below x (y ∷ ys) e = (or_first (same_key x y) (list_any (same_key x) ys) e, none_below x ys (or_second (same_key x y) (list_any (same_key x) ys) e))

    all-both : (P : BlockKey → Type 0) (ks ls : List BlockKey) → AllByRecursion P ks → AllByRecursion P ls → AllByRecursion P (ks ++ ls)
    all-both P [] ls a b = b
    all-both P (x ∷ xs) ls a b = (a.0, all-both P xs ls a.1 b)

-- ---- the places

pub keys-made : {X Y : Type 0} (g : X → Y) (es : List (BlockKey × X)) → keys_in (map (λ e. (e.0, g e.1)) es) ≡ keys_in es
keys-made g [] = refl
keys-made g (e ∷ es) = ap (λ ks. e.0 ∷ ks) (keys-made g es)

pub keys-both : {X : Type 0} (es fs : List (BlockKey × X)) → keys_in (es ++ fs) ≡ keys_in es ++ keys_in fs
keys-both [] fs = refl
keys-both (e ∷ es) fs = ap (λ ks. e.0 ∷ ks) (keys-both es fs)

its_keys : (p : Places) → keys_in (resident_blocks p ++ stored_blocks p) ≡ keys (contents p.table) ++ keys p.store.contents
its_keys p = keys-both (resident_blocks p) (stored_blocks p) ∙ (λ i. keys-made (block_in p.heap) (entries (contents p.table)) i ++ keys-made voxels_in (entries p.store.contents) i)

keys_differ : (p : Places) → IsPlaced p → IsDistinct same_key (keys (contents p.table) ++ keys p.store.contents)
keys_differ p placed = distinct-both (keys (contents p.table)) (keys p.store.contents) (distinct_keys (contents p.table)) (distinct_keys p.store.contents)
    (λ q e. sym (contains_key-keys p.store.contents q) ∙ ap is_some (placed.apart q (contains_key-keys (contents p.table) q ∙ e)))

pub count_blocks : (test : BlockKey → Bool) (p : Places) → IsPlaced p → count_by test (keys (blocks_of p)) ≡ count_by test (keys (contents p.table)) + count_by test (keys p.store.contents)
unfolding blocks_of
count_blocks test p placed =
    count_entries test (resident_blocks p ++ stored_blocks p) (subst (IsDistinct same_key) (sym (its_keys p)) (keys_differ p placed))
    ∙ ap (count_by test) (its_keys p) ∙ sum_by-append (λ k. cond (test k) 1 0) (keys (contents p.table)) (keys p.store.contents)

count_all : (ks : List BlockKey) → count_by (λ _. true) ks ≡ length ks
count_all [] = refl
count_all (k ∷ ks) = (let rest = count_all ks in let l : length (k ∷ ks) ≡ length ks + 1 = (omega arith) in let c = count_by-cons (λ _. true) k ks in omega (arith, rest, l, c))

count_keys : {X : Type 0} (m : FinMap key_cmp X) → len m ≡ count_by (λ _. true) (keys m)
count_keys m = len-entries m ∙ sym (length-map (entries m) (λ e. e.0)) ∙ sym (count_all (keys m))

-- as many keys are known as lie in the heap and in the store
pub len_blocks : (p : Places) → IsPlaced p → len (blocks_of p) ≡ len (contents p.table) + len p.store.contents
len_blocks p placed = count_keys (blocks_of p) ∙ count_blocks (λ _. true) p placed ∙ (λ i. sym (count_keys (contents p.table)) i + sym (count_keys p.store.contents) i)

-- the keys in the heap and those in the store, sorted, are the known keys
pub known_keys : (p : Places) (xs ys : List BlockKey) → IsPlaced p → xs ≡ keys (contents p.table) ++ keys p.store.contents → IsPermutation xs ys → IsSorted key_cmp ys → ys ≡ keys (blocks_of p)
known_keys p xs ys placed is moved order =
    let apart : IsDistinct same_key ys = IsDistinct-IsPermutation same_key (eq_by_cmp_equiv keys_total).symm xs ys moved (subst (IsDistinct same_key) (sym is) (keys_differ p placed)) in
    same_list ys (keys (blocks_of p)) (in_order ys order apart) (keys_rise (blocks_of p)) (λ q.
    sym (list_any-IsPermutation (same_key q) xs ys moved) ∙ ap (list_any (same_key q)) is
    ∙ list_any-append (same_key q) (keys (contents p.table)) (keys p.store.contents)
    ∙ (λ i. sym (contains_key-keys (contents p.table) q) i || sym (contains_key-keys p.store.contents q) i)
    ∙ sym (has-blocks p q) ∙ contains_key-keys (blocks_of p) q)
