-- A fold over a map, in the order of the places where its blocks lie.
use Rattle.std.proofs.Common.{◌≡◌, ℕ, zero, suc, true, List, [], ◌∷◌, ◌++◌, refl, sym, ap, subst, ◌∙◌, arith}
use Rattle.std.specs.Prelude.{Option, Some, None, is_some, slice_get}
use Rattle.std.specs.Option.{option_and_then}
use Rattle.std.specs.List.{IsDistinct, fold, list_any}
use Rattle.std.specs.Map.{keys_of}
use Rattle.std.specs.FinMap.{contains_key, contains_key-keys, entries, find, from_entries, get-from_entries, keys, same_map}
use Rattle.std.specs.FinMap.Entries.{is_some-find}
use Rattle.std.proofs.lemmas.Bool.{cond-true, cond-false}
use Rattle.std.proofs.lemmas.List.Sums.{fold-append}
use Rattle.std.proofs.lemmas.Map.Keys.{IsDistinct-cons}
use Rattle.voxel_block.specs.declared.key.BlockKey.{BlockKey}
use Rattle.voxel_block.specs.declared.voxel.Voxel.{Voxel}
use Rattle.voxel_block.specs.Keys.{key_cmp, same_key}
use Rattle.voxel_block.specs.Packing.{voxels_in}
use Rattle.voxel_block.proofs.DistinctKeys.{distinct_keys}
use Rattle.voxel_block.proofs.KeyLaws.{exact_keys, key_itself, keys_total, other_key}
use Rattle.spatial_hash.specs.Contents.{contents}
use Rattle.block_heap.specs.declared.cell.Cell.{Cell}
use Rattle.block_heap.specs.declared.cell.Cell.TheVariants.{Free, Owned}
use Rattle.block_heap.specs.Cells.{content}
use Rattle.chunk_store.proofs.Folding.{Commutes, fold_entries}
use Rattle.chunk_store.proofs.Listing.{no_other}
use Rattle.streamer.specs.Owners.{block_in, owned_blocks, owner_at}
use Rattle.streamer.specs.Places.{IsPlaced, Places, blocks_of, cell_of, in_heap, stored_blocks}
use Rattle.streamer.proofs.Blocks.{find-both, get-blocks, get-made, or_else, still_some}
use Rattle.streamer.proofs.Counts.{distinct-both, keys-both, keys-made}

-- ---- owned cells

-- the key and the voxels of the cell of this number
abbrev owner_in : List Cell → ℕ → Option (BlockKey × List Voxel)
owner_in cells n = option_and_then content (slice_get cells n)

-- no key owns two cells
abbrev AreApart : List Cell → Type 0
AreApart cells = (k : BlockKey) (i j : ℕ) (v w : List Voxel) → owner_in cells i ≡ Some (k, v) → owner_in cells j ≡ Some (k, w) → i ≡ j

later : (c : Cell) (cells : List Cell) → AreApart (c ∷ cells) → AreApart cells
later c cells a k i j v w e g = let s : suc i ≡ suc j = a k (suc i) (suc j) v w e g in omega arith

find_absent : (cells : List Cell) (q : BlockKey) → ((i : ℕ) (v : List Voxel) → owner_in cells i ≡ Some (q, v) → ⊥) → find key_cmp q (owned_blocks cells) ≡ None
find_absent [] q never = refl
find_absent (Free b ∷ cells) q never = find_absent cells q (λ i v e. never (suc i) v e)
find_absent (Owned k b ∷ cells) q never =
    cond-false (same_key q k) _ _ (other_key q k (λ e. never 0 b (ap (λ (x : BlockKey). Some (x, b)) (sym e)))) ∙ find_absent cells q (λ i v e. never (suc i) v e)

find_owner : (cells : List Cell) (q : BlockKey) (n : ℕ) (v : List Voxel) → AreApart cells → owner_in cells n ≡ Some (q, v) → find key_cmp q (owned_blocks cells) ≡ Some v
find_owner [] q n v a e = absurd (cc)
find_owner (Free b ∷ cells) q zero v a e = absurd (cc)
find_owner (Free b ∷ cells) q (suc n) v a e = find_owner cells q n v (later (Free b) cells a) e
find_owner (Owned k b ∷ cells) q zero v a e =
    let same : (k, b) ≡ (q, v) = cc in
    cond-true (same_key q k) _ _ (ap (λ (p : BlockKey × List Voxel). same_key q p.0) same ∙ key_itself q) ∙ ap (λ (p : BlockKey × List Voxel). Some p.1) same
find_owner (Owned k b ∷ cells) q (suc n) v a e =
    cond-false (same_key q k) _ _ (other_key q k (λ s. (let z : 0 ≡ suc n = a q 0 (suc n) b v (ap (λ (x : BlockKey). Some (x, b)) (sym s)) e in absurd (omega arith))))
    ∙ find_owner cells q n v (later (Owned k b) cells a) e

owned_apart : (cells : List Cell) → AreApart cells → IsDistinct same_key (keys_of (owned_blocks cells))
unfolding IsDistinct
owned_apart [] a = tt
owned_apart (Free b ∷ cells) a = owned_apart cells (later (Free b) cells a)
owned_apart (Owned k b ∷ cells) a =
    IsDistinct-cons same_key k (keys_of (owned_blocks cells))
    (no_other k _ (sym (is_some-find key_cmp k (owned_blocks cells)) ∙ ap is_some (find_absent cells k (λ i v e. (let z : 0 ≡ suc i = a k 0 (suc i) b v refl e in absurd (omega arith))))))
    (owned_apart cells (later (Owned k b) cells a))

-- ---- the places

same_number : (o : Option ℕ) (i j : ℕ) → o ≡ Some i → o ≡ Some j → i ≡ j
same_number o i j e g = let s : Some i ≡ Some j = sym e ∙ g in cc

cells_apart : (p : Places) → IsPlaced p → AreApart p.heap.cells
unfolding owner_at
cells_apart p placed k i j v w e g = same_number (cell_of p.table k) i j (placed.owned k i v e) (placed.owned k j w g)

find_owned : (p : Places) → IsPlaced p → (q : BlockKey) → find key_cmp q (owned_blocks p.heap.cells) ≡ in_heap p.heap (cell_of p.table q)
unfolding owner_at
find_owned p placed q = by (cell_of p.table q) refl
  where
    by : (c : Option ℕ) → cell_of p.table q ≡ c → find key_cmp q (owned_blocks p.heap.cells) ≡ in_heap p.heap c
    by None e = find_absent p.heap.cells q (λ i v at. (let z : ◌≡◌ {A = Option ℕ} (Some i) None = sym (placed.owned q i v at) ∙ e in absurd (cc)))
    by (Some n) e = find_owner p.heap.cells q n (block_in p.heap n) (cells_apart p placed) (placed.found q n e)

-- the blocks in the order of their places
abbrev placed_blocks : Places → List (BlockKey × List Voxel)
placed_blocks p = owned_blocks p.heap.cells ++ stored_blocks p

are_blocks : (p : Places) → IsPlaced p → from_entries {R = key_cmp} (placed_blocks p) ≡ blocks_of p
are_blocks p placed = same_map keys_total exact_keys _ _ (λ q.
    get-from_entries keys_total (placed_blocks p) q ∙ find-both (owned_blocks p.heap.cells) (stored_blocks p) q
    ∙ (λ i. or_else (find_owned p placed q i) (get-made voxels_in p.store.contents q i)) ∙ sym (get-blocks p q))

blocks_apart : (p : Places) → IsPlaced p → IsDistinct same_key (keys_of (placed_blocks p))
blocks_apart p placed = subst (IsDistinct same_key) (sym (keys-both owned (stored_blocks p) ∙ ap (λ ks. keys_of owned ++ ks) stored))
    (distinct-both (keys_of owned) (keys p.store.contents) (owned_apart p.heap.cells (cells_apart p placed)) (distinct_keys p.store.contents)
    (λ q e. sym (contains_key-keys p.store.contents q) ∙ ap is_some (placed.apart q (resident q e))))
  where
    owned : List (BlockKey × List Voxel)
    owned = owned_blocks p.heap.cells

    stored : keys_of (stored_blocks p) ≡ keys p.store.contents
    stored = keys-made voxels_in (entries p.store.contents)

    resident : (q : BlockKey) → list_any (same_key q) (keys_of owned) ≡ true → contains_key (contents p.table) q ≡ true
    resident q e = sym (still_some (block_in p.heap) (cell_of p.table q)) ∙ ap is_some (sym (find_owned p placed q)) ∙ is_some-find key_cmp q owned ∙ e

-- a step whose order does not matter may go through the owned cells and then through the store
pub fold_blocks : {S : Type 0} (f : S → BlockKey × List Voxel → S) → Commutes f → (s : S) (p : Places) → IsPlaced p
    → fold f s (entries (blocks_of p)) ≡ fold f (fold f s (owned_blocks p.heap.cells)) (stored_blocks p)
fold_blocks f c s p placed =
    ap (λ m. fold f s (entries m)) (sym (are_blocks p placed)) ∙ fold_entries f c (placed_blocks p) s (blocks_apart p placed) ∙ fold-append f s (owned_blocks p.heap.cells) (stored_blocks p)
