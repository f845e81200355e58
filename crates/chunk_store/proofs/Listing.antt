-- The keys of all rows, in order.
use Rattle.std.proofs.Common.{◌≡◌, ℕ, suc, ◌+◌, List, [], ◌∷◌, ◌++◌, map, get_or, true, false, cond, ◌&&◌, ◌||◌, refl, sym, ap, ◌∙◌, arith, subst}
use Rattle.std.specs.Prelude.{Bool, Option, Some, None, is_some, filter, pos}
use Rattle.std.specs.Option.{option_and_then}
use Rattle.std.specs.Ordering.{is_lt, is_eq, ordering_reverse}
use Rattle.std.specs.declared.cmp.Ordering.{Ordering}
use Rattle.std.specs.declared.cmp.Ordering.TheVariants.{Less, Equal, Greater}
use Rattle.std.specs.Cmp.{eq_by_cmp_equiv}
use Rattle.std.specs.List.{AllByRecursion, IsDistinct, list_any}
use Rattle.std.specs.List.Sorted.{IsPermutation, IsSorted, IsStrictlySortedBy}
use Rattle.std.specs.Map.{keys_of}
use Rattle.std.specs.FinMap.{contains_key-keys, from_entries, get, get-from_entries, keys, same_map}
use Rattle.std.specs.FinMap.Entries.{is_some-find}
use Rattle.std.proofs.lemmas.Bool.{or_parts, true≢false}
use Rattle.std.proofs.lemmas.List.{map-append}
use Rattle.std.proofs.lemmas.List.Kept.{IsStrictlySortedBy-filter}
use Rattle.std.proofs.lemmas.List.Sorted.{list_any-IsPermutation}
use Rattle.std.proofs.lemmas.Map.Keys.{IsDistinct-cons, IsDistinct-tail, IsDistinct-IsPermutation, apart_from_distinct, sorted_from_all_adjacent}
use Rattle.std.proofs.lemmas.Map.Made.{IsDistinct-keys_filter}
use Rattle.std.proofs.lemmas.Map.Views.{any-filter_same}
use Rattle.voxel_block.specs.declared.key.BlockKey.{BlockKey}
use Rattle.voxel_block.specs.declared.chunk.ChunkKey.{ChunkKey}
use Rattle.voxel_block.specs.Chunks.{chunk_of}
use Rattle.voxel_block.specs.Keys.{key_cmp, same_key}
use Rattle.voxel_block.proofs.KeyLaws.{exact_keys, keys_of_ordered, keys_total, same_key_is}
use Rattle.chunk_store.specs.Rows.{Held, Row, bytes_in, chunk_eq, held_in, place_of}
use Rattle.chunk_store.specs.Changes.{Rows}
use Rattle.chunk_store.specs.Store.{AreOfChunks, IsStore, all_keys, contents_of, held_of}
use Rattle.chunk_store.proofs.Bounds.{keys_rise}
use Rattle.chunk_store.proofs.Contents.{AreRows, Stands, find_held, find_past, first_row, from_first, further, get_contents, here, none_later, rows_later}
use Rattle.chunk_store.proofs.ChunkLaws.{chunk_decides}

-- ---- no key stands twice

or_both : (a b : Bool) → a ≡ false → b ≡ false → (a || b) ≡ false
or_both a b p q = ap (λ x. x || b) p ∙ q

pub no_other : (k : BlockKey) (ks : List BlockKey) → list_any (same_key k) ks ≡ false → AllByRecursion (λ y. same_key k y ≡ false) ks
no_other k [] h = tt
no_other k (y ∷ ys) h = let p = or_parts (same_key k y) (list_any (same_key k) ys) h in (p.0, no_other k ys p.1)

any_both : (p : BlockKey → Bool) (xs ys : List BlockKey) → list_any p xs ≡ false → list_any p ys ≡ false → list_any p (xs ++ ys) ≡ false
any_both p [] ys h k = k
any_both p (x ∷ xs) ys h k = let q = or_parts (p x) (list_any p xs) h in or_both (p x) _ q.0 (any_both p xs ys q.1 k)

row_apart : (c : ChunkKey) (n : ℕ) (row : Row) (rest : List BlockKey) → Stands c n row → IsDistinct same_key rest → ((q : BlockKey) → chunk_of q ≡ c → list_any (same_key q) rest ≡ false)
    → IsDistinct same_key (keys_of (held_in row) ++ rest)
row_apart c n [] rest s d others = d
row_apart c n (None ∷ row) rest s d others = row_apart c (suc n) row rest (further c n None row s) d others
row_apart c n (Some h ∷ row) rest s d others =
    let k = here c n h row s in
    let at : place_of h.0 ≡ n = k.place in
    let none : list_any (same_key h.0) (keys_of (held_in row)) ≡ false =
    sym (is_some-find key_cmp h.0 (held_in row)) ∙ ap is_some (find_past h.0 c (suc n) row (further c n (Some h) row s) (omega arith)) in
    IsDistinct-cons same_key h.0 (keys_of (held_in row) ++ rest)
    (no_other h.0 _ (any_both (same_key h.0) (keys_of (held_in row)) rest none (others h.0 k.chunk)))
    (row_apart c (suc n) row rest (further c n (Some h) row s) d others)

pub all_apart : (es : Rows) → IsDistinct chunk_eq (keys_of es) → AreRows es → IsDistinct same_key (all_keys es)
unfolding IsDistinct
all_apart [] d r = tt
all_apart (e ∷ es) d r =
    let dt = IsDistinct-tail chunk_eq e.0 (keys_of es) d in
    let rt = rows_later e es d r in
    subst (IsDistinct same_key) (sym (map-append (λ (h : Held). h.0) (held_in e.1) (held_of es)))
    (row_apart e.0 0 e.1 (all_keys es) (from_first e.0 e.1 (first_row e es r)) (all_apart es dt rt)
    (λ q same. sym (is_some-find key_cmp q (held_of es)) ∙ ap is_some (find_held es q dt rt ∙ ap (option_and_then (λ row. bytes_in row q)) (none_later e es (chunk_of q) d ((chunk_decides (chunk_of q) e.0).1 same)))))

-- ---- the rows one by one

pub of_chunks : (es : Rows) (n : ℕ) → IsStore es n → AreOfChunks es
of_chunks es n s = by es s.unique s.rows
  where
    by : (xs : Rows) → IsDistinct chunk_eq (keys_of xs) → AreRows xs → AreOfChunks xs
    by [] d r = tt
    by (e ∷ xs) d r = (first_row e xs r, by xs (IsDistinct-tail chunk_eq e.0 (keys_of xs) d) (rows_later e xs d r))

-- ---- lists in order that have the same keys

abbrev marked : List BlockKey → List (BlockKey × Unit {0})
marked ks = map (λ k. (k, tt)) ks

keys_of_marked : (ks : List BlockKey) → keys_of (marked ks) ≡ ks
keys_of_marked [] = refl
keys_of_marked (k ∷ ks) = ap (λ xs. k ∷ xs) (keys_of_marked ks)

only_mark : (o : Option (Unit {0})) → o ≡ cond (is_some o) (Some tt) None
only_mark None = refl
only_mark (Some tt) = refl

get_marked : (ks : List BlockKey) (q : BlockKey) → get (from_entries {R = key_cmp} (marked ks)) q ≡ cond (list_any (same_key q) ks) (Some tt) None
get_marked ks q =
    get-from_entries keys_total (marked ks) q ∙ only_mark _ ∙ ap (λ b. cond b (Some tt) None) (is_some-find key_cmp q (marked ks) ∙ ap (list_any (same_key q)) (keys_of_marked ks))

the_keys : (ks : List BlockKey) → IsStrictlySortedBy key_cmp ks → keys (from_entries {R = key_cmp} (marked ks)) ≡ ks
the_keys ks s = keys_of_ordered (marked ks) (subst (IsStrictlySortedBy key_cmp) (sym (keys_of_marked ks)) s) ∙ keys_of_marked ks

pub same_list : (xs ys : List BlockKey) → IsStrictlySortedBy key_cmp xs → IsStrictlySortedBy key_cmp ys → ((q : BlockKey) → list_any (same_key q) xs ≡ list_any (same_key q) ys) → xs ≡ ys
same_list xs ys s t same =
    sym (the_keys xs s) ∙ ap keys (same_map keys_total exact_keys _ _ (λ q. get_marked xs q ∙ ap (λ b. cond b (Some tt) None) (same q) ∙ sym (get_marked ys q))) ∙ the_keys ys t

-- ---- sorted

zero_key : BlockKey
zero_key = record { x = pos 0; y = pos 0; z = pos 0 }

rises_by : (a b : BlockKey) (o : Ordering) → key_cmp a b ≡ o → is_lt (key_cmp b a) ≡ false → same_key a b ≡ false → key_cmp a b ≡ Less
rises_by a b Less e lt ne = e
rises_by a b Equal e lt ne = let q : is_eq Equal ≡ false = ap is_eq (sym e) ∙ ne in absurd (true≢false q)
rises_by a b Greater e lt ne =
    let r : key_cmp b a ≡ Less = keys_total.antisymm b a ∙ ap ordering_reverse e in
    let q : is_lt Less ≡ false = ap is_lt (sym r) ∙ lt in
    absurd (true≢false q)

pub in_order : (ks : List BlockKey) → IsSorted key_cmp ks → IsDistinct same_key ks → IsStrictlySortedBy key_cmp ks
in_order ks s d = sorted_from_all_adjacent keys_total ks zero_key (λ k lt.
    rises_by (get_or ks k zero_key) (get_or ks (k + 1) zero_key) _ refl (s k zero_key (omega arith) (omega arith)) (apart_from_distinct same_key ks k (k + 1) zero_key d (omega arith) (omega arith)))

keys_of_filtered : (p : BlockKey → Bool) (hs : List Held) → keys_of (filter (λ h. p h.0) hs) ≡ filter p (keys_of hs)
keys_of_filtered p [] = refl
keys_of_filtered p (h ∷ hs) = elim (p h.0) as (λ b. keys_of (cond b (h ∷ filter (λ x. p x.0) hs) (filter (λ x. p x.0) hs)) ≡ cond b (h.0 ∷ filter p (keys_of hs)) (filter p (keys_of hs))) [
  | true ↦ ap (λ xs. h.0 ∷ xs) (keys_of_filtered p hs)
  | false ↦ keys_of_filtered p hs
]

-- the keys of the rows that pass a test, sorted, are the keys of the map that pass it
pub sorted_keys : (p : BlockKey → Bool) (es : Rows) (n : ℕ) (xs ys : List BlockKey) → IsStore es n → xs ≡ filter p (all_keys es) → IsPermutation xs ys → IsSorted key_cmp ys → ys ≡ filter p (keys (contents_of es))
sorted_keys p es n xs ys s is moved order =
    let m = contents_of es in
    let apart : IsDistinct same_key (filter p (all_keys es)) = subst (IsDistinct same_key) (keys_of_filtered p (held_of es)) (IsDistinct-keys_filter same_key (λ h. p h.0) (held_of es) (all_apart es s.unique s.rows)) in
    let apart_after : IsDistinct same_key ys = IsDistinct-IsPermutation same_key (eq_by_cmp_equiv keys_total).symm xs ys moved (subst (IsDistinct same_key) (sym is) apart) in
    same_list ys (filter p (keys m)) (in_order ys order apart_after) (IsStrictlySortedBy-filter key_cmp p (keys m) (keys_rise m)) (λ q.
    sym (list_any-IsPermutation (same_key q) xs ys moved) ∙ ap (list_any (same_key q)) is
    ∙ any-filter_same (same_key q) p (p q) (λ k h. ap p (sym (same_key_is q k h))) (all_keys es)
    ∙ ap (λ b. p q && b) (sym (is_some-find key_cmp q (held_of es)) ∙ ap is_some (find_held es q s.unique s.rows ∙ sym (get_contents es q s.unique s.rows)) ∙ contains_key-keys m q)
    ∙ sym (any-filter_same (same_key q) p (p q) (λ k h. ap p (sym (same_key_is q k h))) (keys m)))

all_pass : (ks : List BlockKey) → filter (λ _. true) ks ≡ ks
all_pass [] = refl
all_pass (k ∷ ks) = ap (λ xs. k ∷ xs) (all_pass ks)

pub sorted_all : (es : Rows) (n : ℕ) (xs ys : List BlockKey) → IsStore es n → xs ≡ all_keys es → IsPermutation xs ys → IsSorted key_cmp ys → ys ≡ keys (contents_of es)
sorted_all es n xs ys s is moved order = sorted_keys (λ _. true) es n xs ys s (is ∙ sym (all_pass (all_keys es))) moved order ∙ all_pass (keys (contents_of es))
