-- Rows of which one place changes, and rows with one more row.
use Rattle.std.proofs.Common.{◌≡◌, ◌≢◌, ℕ, zero, suc, ◌+◌, ◌-◌, ◌<◌, List, length, set, true, false, cond, refl, sym, ap, ◌∙◌, arith, subst, ◌||◌}
use Rattle.std.specs.Prelude.{Bool, Option, Some, None, is_some, replicate}
use Rattle.std.specs.Option.{option_and_then, option_map}
use Rattle.std.specs.List.{IsDistinct}
use Rattle.std.specs.Map.{keys_of, lookup}
use Rattle.std.specs.FinMap.{FinMap, contains_key, empty_of_len, get, get-empty, insert, len, len-remove, remove, same_map}
use Rattle.std.specs.FinSet.{contains-insert, from_list, same_set, insert as with_item}
use Rattle.std.proofs.lemmas.Bool.{cond-true, cond-false}
use Rattle.voxel_block.specs.declared.key.BlockKey.{BlockKey}
use Rattle.voxel_block.specs.declared.chunk.ChunkKey.{ChunkKey}
use Rattle.voxel_block.specs.Chunks.{chunk_of}
use Rattle.voxel_block.specs.Keys.{key_cmp}
use Rattle.voxel_block.specs.Words.{key_of, word_of}
use Rattle.voxel_block.proofs.KeyLaws.{by_key, exact_keys, gone_elsewhere, gone_here, keys_total, len_put, put_elsewhere, put_here}
use Rattle.chunk_store.specs.Rows.{Held, IsKeyOf, IsRow, Row, bytes_in, chunk_eq, held_at, place_of}
use Rattle.chunk_store.specs.Changes.{Opens, Rows, Writes}
use Rattle.chunk_store.specs.Store.{IsStore, contents_of, opened_of}
use Rattle.chunk_store.proofs.Axes.{place_low, same_block}
use Rattle.chunk_store.proofs.ChunkLaws.{by_chunk, chunk_equiv, chunk_itself, chunks_total, exact_chunks, other_chunk, two_tests}
use Rattle.chunk_store.proofs.Contents.{AreRows, get_contents, is_opened}
use Rattle.chunk_store.proofs.Counts.{held_at_none, written_elsewhere, written_here}

-- ---- a row

same_place : (row : Row) (k q : BlockKey) (place : Option Held) → place_of q ≢ place_of k → bytes_in (set row (place_of k) place) q ≡ bytes_in row q
same_place row k q place ne = ap (option_map (λ h. h.1)) (written_elsewhere row (place_of k) (place_of q) place ne)

by_place : (m n : ℕ) {P : Type 0} → (m ≡ n → P) → (m ≢ n → P) → P
by_place zero zero f g = f refl
by_place zero (suc n) f g = g (λ e. absurd (omega arith))
by_place (suc m) zero f g = g (λ e. absurd (omega arith))
by_place (suc m) (suc n) f g = by_place m n (λ e. f (ap suc e)) (λ ne. g (λ e. ne (omega arith)))

module _ (es : Rows) (k : BlockKey) (row : Row) (place : Option Held) (fs : Rows) (n : ℕ) (w : Writes es k row place fs) (s : IsStore es n) where
  low : place_of k < length row
  low = let l : length row ≡ 512 = w.long in let p = place_low k in omega arith

  unique : IsDistinct chunk_eq (keys_of fs)
  unique = subst (IsDistinct chunk_eq) (sym w.keys) s.unique

  its_row : lookup (chunk_eq (chunk_of k)) fs ≡ Some (set row (place_of k) place)
  its_row = w.rows (chunk_of k) ∙ cond-true (chunk_eq (chunk_of k) (chunk_of k)) _ _ (chunk_itself (chunk_of k))

  other_row : (c : ChunkKey) → chunk_of k ≢ c → lookup (chunk_eq c) fs ≡ lookup (chunk_eq c) es
  other_row c ne = w.rows c ∙ cond-false (chunk_eq (chunk_of k) c) _ _ (other_chunk (chunk_of k) c ne)

  module _ (fits : (h : Held) → place ≡ Some h → IsKeyOf (chunk_of k) (place_of k) h.0) where
    row_after : IsRow (chunk_of k) (set row (place_of k) place)
    row_after i h e = by_place i (place_of k)
        (λ same. subst (λ (j : ℕ). IsKeyOf (chunk_of k) j h.0) (sym same) (fits h (sym (written_here row (place_of k) place low) ∙ ap (held_at (set row (place_of k) place)) (sym same) ∙ e)))
        (λ ne. s.rows (chunk_of k) row w.there i h (sym (written_elsewhere row (place_of k) i place ne) ∙ e))

    rows_after : AreRows fs
    rows_after c r found = by_chunk (chunk_of k) c
        (λ same. let P : ChunkKey → Row → Type 0 = IsRow in
        let e : Some (set row (place_of k) place) ≡ Some r = sym its_row ∙ ap (λ (d : ChunkKey). lookup (chunk_eq d) fs) same ∙ found in
        let e2 : set row (place_of k) place ≡ r = cc in
        subst (λ (d : ChunkKey). IsRow d r) same (subst (λ (x : Row). IsRow (chunk_of k) x) e2 row_after))
        (λ ne. s.rows c r (sym (other_row c ne) ∙ found))

    get_here : get (contents_of fs) k ≡ option_map (λ h. h.1) place
    get_here = get_contents fs k unique rows_after ∙ ap (option_and_then (λ r. bytes_in r k)) its_row ∙ ap (option_map (λ h. h.1)) (written_here row (place_of k) place low)

    get_elsewhere : (q : BlockKey) → q ≢ k → get (contents_of fs) q ≡ get (contents_of es) q
    get_elsewhere q ne =
        get_contents fs q unique rows_after ∙
        by_chunk (chunk_of k) (chunk_of q)
        (λ same.
        let at : lookup (chunk_eq (chunk_of q)) fs ≡ Some (set row (place_of k) place) = ap (λ (c : ChunkKey). lookup (chunk_eq c) fs) (sym same) ∙ its_row in
        let was : lookup (chunk_eq (chunk_of q)) es ≡ Some row = ap (λ (c : ChunkKey). lookup (chunk_eq c) es) (sym same) ∙ w.there in
        ap (option_and_then (λ r. bytes_in r q)) at ∙ same_place row k q place (λ p. ne (same_block q k (sym same) p)) ∙ sym (ap (option_and_then (λ r. bytes_in r q)) was))
        (λ other. ap (option_and_then (λ r. bytes_in r q)) (other_row (chunk_of q) other))
        ∙ sym (get_contents es q s.unique s.rows)

    contents_after : (m : FinMap key_cmp (List ℕ)) → get m k ≡ option_map (λ h. h.1) place → ((q : BlockKey) → q ≢ k → get m q ≡ get (contents_of es) q) → contents_of fs ≡ m
    contents_after m at others = same_map keys_total exact_keys _ _ (λ q. by_key q k
        (λ same. ap (get (contents_of fs)) same ∙ get_here ∙ sym at ∙ ap (get m) (sym same))
        (λ ne. get_elsewhere q ne ∙ sym (others q ne)))

    store_after : (m : ℕ) → m ≡ len (contents_of fs) → IsStore fs m
    store_after m e = record { unique = unique; rows = rows_after; count = e }

-- the opened chunks are those of the keys
pub opened_same : (es fs : Rows) → keys_of fs ≡ keys_of es → opened_of fs ≡ opened_of es
unfolding opened_of
opened_same es fs e = ap from_list e

-- ---- a block is put into its place

module _ (es : Rows) (k : BlockKey) (v : List ℕ) (row : Row) (fs : Rows) (n : ℕ) (w : Writes es k row (Some (k, v)) fs) (s : IsStore es n) (word : key_of (word_of k) ≡ Some k) where
  its_own : (h : Held) → Some (k, v) ≡ Some h → IsKeyOf (chunk_of k) (place_of k) h.0
  its_own h e = let one : (k, v) ≡ h = cc in subst (λ (x : Held). IsKeyOf (chunk_of k) (place_of k) x.0) one (record { chunk = refl; place = refl; word = word })

  pub contents_put : contents_of fs ≡ insert (contents_of es) k v
  contents_put = contents_after es k row (Some (k, v)) fs n w s its_own (insert (contents_of es) k v) (put_here (contents_of es) k v) (λ q ne. put_elsewhere (contents_of es) k q v ne)

  pub store_put : contains_key (contents_of es) k ≡ false → IsStore fs (n + 1)
  store_put new = let l : len (insert (contents_of es) k v) ≡ len (contents_of es) + 1 = len_put (contents_of es) k v new in
      let count : n ≡ len (contents_of es) = s.count in
      store_after es k row (Some (k, v)) fs n w s its_own (n + 1) (ap (λ x. x + 1) count ∙ sym l ∙ ap len (sym contents_put))

-- ---- a block is taken out of its place

pub len_gone : {X : Type 0} (m : FinMap key_cmp X) (k : BlockKey) → contains_key m k ≡ true → len (remove m k) + 1 ≡ len m
len_gone m k e = by (len m) refl
  where
    by : (n : ℕ) → len m ≡ n → len (remove m k) + 1 ≡ len m
    by zero z = (let h : false ≡ true = ap is_some (sym (get-empty key_cmp k)) ∙ ap (λ u. contains_key u k) (sym (empty_of_len m z)) ∙ e in absurd (cc))
    by (suc n) z =
        let l : len (remove m k) ≡ len m - 1 = len-remove keys_total m k ∙ ap (λ b. cond b (len m - 1) (len m)) e in
        omega (arith, l, z)

module _ (es : Rows) (k : BlockKey) (row : Row) (fs : Rows) (n : ℕ) (w : Writes es k row None fs) (s : IsStore es n) where
  no_key : (h : Held) → None ≡ Some h → IsKeyOf (chunk_of k) (place_of k) h.0
  no_key h e = absurd (cc)

  pub contents_taken : contents_of fs ≡ remove (contents_of es) k
  contents_taken = contents_after es k row None fs n w s no_key (remove (contents_of es) k) (gone_here (contents_of es) k) (λ q ne. gone_elsewhere (contents_of es) k q ne)

  pub taken_count : (m : ℕ) → m ≡ len (contents_of fs) → IsStore fs m
  taken_count m e = store_after es k row None fs n w s no_key m e

-- ---- a chunk gets a row

module _ (es : Rows) (c : ChunkKey) (fs : Rows) (n : ℕ) (o : Opens es c fs) (s : IsStore es n) where
  new_row : lookup (chunk_eq c) fs ≡ Some (replicate 512 None)
  new_row = o.rows c ∙ cond-true (chunk_eq c c) _ _ (chunk_itself c)

  old_row : (q : ChunkKey) → c ≢ q → lookup (chunk_eq q) fs ≡ lookup (chunk_eq q) es
  old_row q ne = o.rows q ∙ cond-false (chunk_eq c q) _ _ (other_chunk c q ne)

  rows_with : AreRows fs
  rows_with q r found = by_chunk c q
      (λ same. let e : Some (replicate 512 None) ≡ Some r = sym new_row ∙ ap (λ (d : ChunkKey). lookup (chunk_eq d) fs) same ∙ found in
      let e2 : replicate 512 None ≡ r = cc in
      subst (λ (x : Row). IsRow q x) e2 (λ i h at. (let z : ◌≡◌ {A = Option Held} None (Some h) = sym (held_at_none 512 i) ∙ at in absurd (cc))))
      (λ ne. s.rows q r (sym (old_row q ne) ∙ found))

  pub contents_opened : contents_of fs ≡ contents_of es
  contents_opened = same_map keys_total exact_keys _ _ (λ q.
      get_contents fs q o.unique rows_with ∙
      by_chunk c (chunk_of q)
      (λ same.
      let at : lookup (chunk_eq (chunk_of q)) fs ≡ Some (replicate 512 None) = ap (λ (d : ChunkKey). lookup (chunk_eq d) fs) (sym same) ∙ new_row in
      let was : lookup (chunk_eq (chunk_of q)) es ≡ None = ap (λ (d : ChunkKey). lookup (chunk_eq d) es) (sym same) ∙ o.absent in
      ap (option_and_then (λ r. bytes_in r q)) at ∙ ap (option_map (λ h. h.1)) (held_at_none 512 (place_of q)) ∙ sym (ap (option_and_then (λ r. bytes_in r q)) was))
      (λ ne. ap (option_and_then (λ r. bytes_in r q)) (old_row (chunk_of q) ne))
      ∙ sym (get_contents es q s.unique s.rows))

  pub store_opened : IsStore fs n
  store_opened = record { unique = o.unique; rows = rows_with; count = s.count ∙ ap len (sym contents_opened) }

  some_with : (b : Bool) (x : Option Row) → is_some (cond b (Some (replicate 512 None)) x) ≡ (b || is_some x)
  some_with true x = refl
  some_with false x = refl

  pub opened_more : opened_of fs ≡ with_item (opened_of es) c
  opened_more = same_set chunks_total exact_chunks _ _ (λ q.
      is_opened fs q ∙ ap is_some (o.rows q) ∙ some_with (chunk_eq c q) (lookup (chunk_eq q) es)
      ∙ (λ i. (chunk_equiv.symm c q ∙ sym (two_tests q c)) i || sym (is_opened es q) i)
      ∙ sym (contains-insert chunks_total (opened_of es) c q))
