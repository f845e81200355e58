-- What a call of the store does to its map, its chunks and its count.
use Rattle.std.proofs.Common.{◌≡◌, ℕ, zero, suc, ◌+◌, ◌-◌, ◌<◌, ◌≤◌, List, [], ◌∷◌, ◌++◌, length, map, take, get_or, true, false, refl, sym, ap, ◌∙◌, arith, subst, ◌||◌}
use Rattle.std.specs.Prelude.{Bool, Option, Some, None, is_some, IsSome, IfSome, OnOk, OnErr, Result, Ok, Err}
use Rattle.std.specs.Option.{option_and_then}
use Rattle.std.specs.Ordering.{eq_by_cmp}
use Rattle.std.specs.Map.{lookup}
use Rattle.std.specs.List.{IsDistinct, list_any}
use Rattle.std.specs.FinMap.{FinMap, contains_key, empty, get, insert, len, len-empty, remove, same_map}
use Rattle.std.specs.FinSet.{FinSet, contains, contains-from_list, contains-insert, contains-is_subset, contains-union, is_subset, from_list, same_set, empty as no_chunks, insert as with_chunk}
use Rattle.std.proofs.lemmas.List.{map-append}
use Rattle.voxel_block.specs.declared.key.BlockKey.{BlockKey}
use Rattle.voxel_block.specs.declared.chunk.ChunkKey.{ChunkKey}
use Rattle.voxel_block.specs.Chunks.{chunk_cmp, chunk_of}
use Rattle.voxel_block.specs.Keys.{key_cmp}
use Rattle.voxel_block.specs.Words.{key_of, word_of}
use Rattle.voxel_block.proofs.KeyLaws.{by_key, exact_keys, gone_elsewhere, gone_here, keys_total}
use Rattle.chunk_store.specs.Rows.{Row, bytes_in, chunk_eq}
use Rattle.chunk_store.specs.Changes.{Opens, Rows, Writes}
use Rattle.chunk_store.specs.Store.{IsStore, Stored, contents_of, opened_of, opened_with, stored}
use Rattle.chunk_store.proofs.ChunkLaws.{by_chunk, chunk_itself, chunks_total, exact_chunks, other_chunk, two_tests}
use Rattle.chunk_store.proofs.Contents.{get_contents, is_opened}
use Rattle.chunk_store.proofs.Changes.{contents_opened, contents_put, contents_taken, len_gone, opened_more, opened_same, store_opened, store_put, taken_count}

pub is_there : (es : Rows) (c : ChunkKey) → contains (opened_of es) c ≡ true → IsSome (lookup (chunk_eq c) es)
is_there es c h = sym (is_opened es c) ∙ h

not_held : {X : Type 0} (o : Option X) → is_some o ≡ false → o ≡ None
not_held None e = refl
not_held (Some x) e = absurd (cc)

pub nothing_there : (es : Rows) (k : BlockKey) (n : ℕ) → IsStore es n → contains_key (contents_of es) k ≡ false → option_and_then (λ row. bytes_in row k) (lookup (chunk_eq (chunk_of k)) es) ≡ None
nothing_there es k n s h = sym (get_contents es k s.unique s.rows) ∙ not_held _ h

-- the chunk of a held block is opened
pub held_is_opened : (es : Rows) (k : BlockKey) (n : ℕ) (v : List ℕ) → IsStore es n → get (contents_of es) k ≡ Some v → contains (opened_of es) (chunk_of k) ≡ true
held_is_opened es k n v s h = is_opened es (chunk_of k) ∙ at (lookup (chunk_eq (chunk_of k)) es) (sym (get_contents es k s.unique s.rows) ∙ h)
  where
    at : (o : Option Row) → option_and_then (λ row. bytes_in row k) o ≡ Some v → is_some o ≡ true
    at None e = absurd (cc)
    at (Some row) e = refl

-- ---- no row

no_rows : IsStore [] 0
unfolding IsDistinct contents_of
no_rows = record { unique = tt; rows = λ c row h. absurd (cc); count = sym (len-empty key_cmp (List ℕ)) }

pub new_store : (es : Rows) → es ≡ [] → IsStore es 0
new_store es e = subst (λ (xs : Rows). IsStore xs 0) (sym e) no_rows

none_stored : stored [] ≡ record { contents = empty; opened = no_chunks }
unfolding contents_of opened_of
none_stored = refl

pub new_stored : (es : Rows) → es ≡ [] → stored es ≡ record { contents = empty; opened = no_chunks }
new_stored es e = ap stored e ∙ none_stored

-- ---- a block is put

pub record Put (es : Rows) (k : BlockKey) (v : List ℕ) (n : ℕ) (fs : Rows) : Type 0 where
  pub contents : contents_of fs ≡ insert (contents_of es) k v
  pub opened : opened_of fs ≡ opened_of es
  pub store : IsStore fs (n + 1)

pub block_put : (es : Rows) (k : BlockKey) (v : List ℕ) (n : ℕ) (fs : Rows) → IsStore es n → key_of (word_of k) ≡ Some k → contains_key (contents_of es) k ≡ false
    → IsSome (lookup (chunk_eq (chunk_of k)) es) → IfSome (lookup (chunk_eq (chunk_of k)) es) (λ row. Writes es k row (Some (k, v)) fs) → Put es k v n fs
block_put es k v n fs s word new there writes = at (lookup (chunk_eq (chunk_of k)) es) refl there writes
  where
    at : (o : Option Row) → lookup (chunk_eq (chunk_of k)) es ≡ o → IsSome o → IfSome o (λ row. Writes es k row (Some (k, v)) fs) → Put es k v n fs
    at None e t w = absurd (cc)
    at (Some row) e t w = record { contents = contents_put es k v row fs n w s word; opened = opened_same es fs w.keys; store = store_put es k v row fs n w s word new }

-- ---- a block is taken

pub record Taken (es : Rows) (k : BlockKey) (fs : Rows) : Type 0 where
  pub contents : contents_of fs ≡ remove (contents_of es) k
  pub opened : opened_of fs ≡ opened_of es
  pub store : (m : ℕ) → m ≡ len (contents_of fs) → IsStore fs m

not_removed : (m : FinMap key_cmp (List ℕ)) (k : BlockKey) → get m k ≡ None → remove m k ≡ m
not_removed m k e = same_map keys_total exact_keys _ _ (λ q. by_key q k
    (λ same. ap (get (remove m k)) same ∙ gone_here m k ∙ sym e ∙ ap (get m) (sym same))
    (λ ne. gone_elsewhere m k q ne))

pub block_taken : (es : Rows) (k : BlockKey) (n : ℕ) (fs : Rows) → IsStore es n → IfSome (lookup (chunk_eq (chunk_of k)) es) (λ row. Writes es k row None fs) → (lookup (chunk_eq (chunk_of k)) es ≡ None → fs ≡ es) → Taken es k fs
block_taken es k n fs s writes same = at (lookup (chunk_eq (chunk_of k)) es) refl writes
  where
    at : (o : Option Row) → lookup (chunk_eq (chunk_of k)) es ≡ o → IfSome o (λ row. Writes es k row None fs) → Taken es k fs
    at None e w =
        let f : fs ≡ es = same e in
        let none : get (contents_of es) k ≡ None = get_contents es k s.unique s.rows ∙ ap (option_and_then (λ row. bytes_in row k)) e in record {
          contents = ap contents_of f ∙ sym (not_removed (contents_of es) k none);
          opened = ap opened_of f;
          store = λ m c. subst (λ (xs : Rows). IsStore xs m) (sym f) (record { unique = s.unique; rows = s.rows; count = c ∙ ap (λ xs. len (contents_of xs)) f });
        }
    at (Some row) e w = record { contents = contents_taken es k row fs n w s; opened = opened_same es fs w.keys; store = taken_count es k row fs n w s }

-- the count where there was no block, and where there was one
pub as_many : (es : Rows) (k : BlockKey) (n : ℕ) (fs : Rows) → IsStore es n → Taken es k fs → get (contents_of es) k ≡ None → IsStore fs n
as_many es k n fs s t none = t.store n (s.count ∙ sym (ap len (t.contents ∙ not_removed (contents_of es) k none)))

pub some_held : (es : Rows) (k : BlockKey) (n : ℕ) (v : List ℕ) → IsStore es n → get (contents_of es) k ≡ Some v → 1 ≤ n
some_held es k n v s held =
    let l = len_gone (contents_of es) k (ap is_some held) in
    let count : n ≡ len (contents_of es) = s.count in
    omega arith

pub one_less : (es : Rows) (k : BlockKey) (n : ℕ) (v : List ℕ) (fs : Rows) → IsStore es n → Taken es k fs → get (contents_of es) k ≡ Some v → IsStore fs (n - 1)
one_less es k n v fs s t held =
    let l = len_gone (contents_of es) k (ap is_some held) in
    let count : n ≡ len (contents_of es) = s.count in
    let now : len (contents_of fs) ≡ len (remove (contents_of es) k) = ap len t.contents in
    t.store (n - 1) (omega arith)

-- ---- a chunk is opened

already : (es : Rows) (c : ChunkKey) → IsSome (lookup (chunk_eq c) es) → with_chunk (opened_of es) c ≡ opened_of es
already es c there = same_set chunks_total exact_chunks _ _ (λ q. contains-insert chunks_total (opened_of es) c q ∙ by_chunk q c
    (λ same. (let in_it : contains (opened_of es) q ≡ true = ap (contains (opened_of es)) same ∙ is_opened es c ∙ there in
    ap (λ b. (eq_by_cmp chunk_cmp q c || b)) in_it ∙ or_true _ ∙ sym in_it))
    (λ ne. ap (λ b. b || contains (opened_of es) q) (two_tests q c ∙ other_chunk q c ne)))
  where
    or_true : (b : Bool) → (b || true) ≡ true
    or_true true = refl
    or_true false = refl

pub record Opened (es : Rows) (c : ChunkKey) (n : ℕ) (fs : Rows) : Type 0 where
  pub contents : contents_of fs ≡ contents_of es
  pub opened : opened_of fs ≡ with_chunk (opened_of es) c
  pub store : IsStore fs n

pub chunk_opened : (es : Rows) (c : ChunkKey) (n : ℕ) (fs : Rows) → IsStore es n → (lookup (chunk_eq c) es ≡ None → Opens es c fs) → (IsSome (lookup (chunk_eq c) es) → fs ≡ es) → Opened es c n fs
chunk_opened es c n fs s opens had = at (lookup (chunk_eq c) es) refl
  where
    at : (o : Option Row) → lookup (chunk_eq c) es ≡ o → Opened es c n fs
    at None e = let o = opens e in record { contents = contents_opened es c fs n o s; opened = opened_more es c fs n o s; store = store_opened es c fs n o s }
    at (Some row) e =
        let there : is_some (lookup (chunk_eq c) es) ≡ true = ap is_some e in
        let f : fs ≡ es = had there in record { contents = ap contents_of f; opened = ap opened_of f ∙ sym (already es c there); store = subst (λ (xs : Rows). IsStore xs n) (sym f) s }

-- by what the call answered
module _ {E : Type 0} (es : Rows) (c : ChunkKey) (n : ℕ) (fs : Rows) (s : IsStore es n) where
  pub store_either : (r : Result (Unit {0}) E) → OnOk r (lookup (chunk_eq c) es ≡ None → Opens es c fs) → (IsSome (lookup (chunk_eq c) es) → fs ≡ es) → OnErr r (fs ≡ es) → IsStore fs n
  store_either (Ok u) opens had err = (chunk_opened es c n fs s opens had).store
  store_either (Err e) opens had err = subst (λ (xs : Rows). IsStore xs n) (sym err) s

  pub stored_with : (t : Stored) → stored es ≡ t → (r : Result (Unit {0}) E) → OnOk r (lookup (chunk_eq c) es ≡ None → Opens es c fs) → (IsSome (lookup (chunk_eq c) es) → fs ≡ es) → OnOk r (stored fs ≡ record { contents = t.contents; opened = with_chunk t.opened c })
  stored_with t is (Ok u) opens had =
      let o = chunk_opened es c n fs s opens had in
      (λ i. record { contents = o.contents i; opened = o.opened i }) ∙ ap (λ (x : Stored). record { contents = x.contents; opened = with_chunk x.opened c }) is
  stored_with t is (Err e) opens had = tt

-- ---- the chunks of keys are opened

list_any_both : {X : Type 0} (p : X → Bool) (xs ys : List X) → list_any p (xs ++ ys) ≡ (list_any p xs || list_any p ys)
list_any_both p [] ys = refl
list_any_both p (x ∷ xs) ys = ap (λ b. p x || b) (list_any_both p xs ys) ∙ or_assoc (p x) (list_any p xs) (list_any p ys)
  where
    or_assoc : (a b c : Bool) → (a || (b || c)) ≡ ((a || b) || c)
    or_assoc true b c = refl
    or_assoc false b c = refl

is_with : (s : FinSet chunk_cmp) (ks : List BlockKey) (q : ChunkKey) → contains (opened_with s ks) q ≡ (contains s q || list_any (eq_by_cmp chunk_cmp q) (map chunk_of ks))
is_with s ks q = contains-union chunks_total s (from_list (map chunk_of ks)) q ∙ ap (λ b. contains s q || b) (contains-from_list chunks_total (map chunk_of ks) q)

or_false : (b : Bool) → (b || false) ≡ b
or_false true = refl
or_false false = refl

pub with_none : (s : FinSet chunk_cmp) → s ≡ opened_with s []
with_none s = same_set chunks_total exact_chunks _ _ (λ q. sym (is_with s [] q ∙ or_false (contains s q)))

pub with_next : (s : FinSet chunk_cmp) (ks : List BlockKey) (i : ℕ) (k : BlockKey) → take (i + 1) ks ≡ take i ks ++ k ∷ [] → with_chunk (opened_with s (take i ks)) (chunk_of k) ≡ opened_with s (take (i + 1) ks)
with_next s ks i k is = same_set chunks_total exact_chunks _ _ (λ q.
    contains-insert chunks_total (opened_with s (take i ks)) (chunk_of k) q
    ∙ ap (λ b. eq_by_cmp chunk_cmp q (chunk_of k) || b) (is_with s (take i ks) q)
    ∙ turn (eq_by_cmp chunk_cmp q (chunk_of k)) (contains s q) (list_any (eq_by_cmp chunk_cmp q) (map chunk_of (take i ks)))
    ∙ sym (is_with s (take (i + 1) ks) q
    ∙ ap (λ xs. contains s q || list_any (eq_by_cmp chunk_cmp q) (map chunk_of xs)) is
    ∙ ap (λ xs. contains s q || list_any (eq_by_cmp chunk_cmp q) xs) (map-append chunk_of (take i ks) (k ∷ []))
    ∙ ap (λ b. contains s q || b) (list_any_both (eq_by_cmp chunk_cmp q) (map chunk_of (take i ks)) (chunk_of k ∷ []))))
  where
    turn : (a b c : Bool) → (a || (b || c)) ≡ (b || (c || (a || false)))
    turn true true true = refl
    turn true true false = refl
    turn true false true = refl
    turn true false false = refl
    turn false true c = refl
    turn false false true = refl
    turn false false false = refl

-- chunks stay opened, and no other is opened, when some of the keys were gone through
pub with_some : (s t : FinSet chunk_cmp) (ks : List BlockKey) (i : ℕ) → t ≡ opened_with s (take i ks) → (is_subset s t ≡ true) × (is_subset t (opened_with s ks) ≡ true)
with_some s t ks i is = (
  contains-is_subset chunks_total s t (λ q h. ap (λ x. contains x q) is ∙ is_with s (take i ks) q ∙ ap (λ b. b || list_any (eq_by_cmp chunk_cmp q) (map chunk_of (take i ks))) h),
  contains-is_subset chunks_total t (opened_with s ks) (λ q h. is_with s ks q ∙ more (contains s q) _ _ (among_more (eq_by_cmp chunk_cmp q) ks i) (sym (is_with s (take i ks) q) ∙ ap (λ x. contains x q) (sym is) ∙ h)),
)
  where
    more : (a b c : Bool) → (b ≡ true → c ≡ true) → (a || b) ≡ true → (a || c) ≡ true
    more true b c f h = refl
    more false b c f h = f h

    among_more : (p : ChunkKey → Bool) (xs : List BlockKey) (j : ℕ) → list_any p (map chunk_of (take j xs)) ≡ true → list_any p (map chunk_of xs) ≡ true
    among_more p xs zero h = absurd (cc)
    among_more p [] (suc j) h = absurd (cc)
    among_more p (x ∷ xs) (suc j) h = more (p (chunk_of x)) _ _ (among_more p xs j) h

-- the chunk of each of the keys is opened
pub opens_each : (s : FinSet chunk_cmp) (ks : List BlockKey) (i : ℕ) (d : BlockKey) → i < length ks → contains (opened_with s ks) (chunk_of (get_or ks i d)) ≡ true
opens_each s ks i d lt = is_with s ks (chunk_of (get_or ks i d)) ∙ ap (λ b. contains s (chunk_of (get_or ks i d)) || b) (among ks i lt) ∙ or_true (contains s (chunk_of (get_or ks i d)))
  where
    or_true : (b : Bool) → (b || true) ≡ true
    or_true true = refl
    or_true false = refl

    among : (xs : List BlockKey) (j : ℕ) → j < length xs → list_any (eq_by_cmp chunk_cmp (chunk_of (get_or xs j d))) (map chunk_of xs) ≡ true
    among [] j lt = absurd (omega arith)
    among (x ∷ xs) zero lt = ap (λ b. b || list_any (eq_by_cmp chunk_cmp (chunk_of x)) (map chunk_of xs)) (two_tests (chunk_of x) (chunk_of x) ∙ chunk_itself (chunk_of x))
    among (x ∷ xs) (suc j) lt = ap (λ b. eq_by_cmp chunk_cmp (chunk_of (get_or xs j d)) (chunk_of x) || b) (among xs j (omega arith)) ∙ or_true _
