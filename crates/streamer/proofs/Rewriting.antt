-- Places in which a resident key has another block.
use Rattle.std.proofs.Common.{◌≡◌, ◌≢◌, ℕ, List, length, refl, sym, ap, ◌∙◌, subst, arith}
use Rattle.std.specs.Prelude.{Option, Some, None, IsTrue}
use Rattle.std.specs.FinMap.{contains_key, get, insert}
use Rattle.voxel_block.specs.declared.key.BlockKey.{BlockKey}
use Rattle.voxel_block.specs.declared.voxel.Voxel.{Voxel}
use Rattle.voxel_block.specs.Blocks.{new_block}
use Rattle.voxel_block.proofs.KeyLaws.{by_key, put_elsewhere, put_here}
use Rattle.spatial_hash.specs.Contents.{contents}
use Rattle.block_heap.specs.HeapLending.{with_block_at}
use Rattle.block_heap.proofs.FreeLists.{by_number}
use Rattle.streamer.specs.Owners.{block_in, owner_at, voxels_of}
use Rattle.streamer.specs.Places.{IsPlaced, Places, blocks_of, cell_of, in_heap}
use Rattle.streamer.specs.Lending.{KeepsPlaces, with_block_in, with_block_of, with_heap}
use Rattle.streamer.proofs.Blocks.{get-blocks, in_store, is-blocks, or_else}
use Rattle.streamer.proofs.Keyed.{some_of, the_same}
use Rattle.streamer.proofs.Moves.{owner_of, same_resident}
use Rattle.streamer.proofs.Owning.{IsChanged, rewritten, rewritten_free}

-- ---- in the cell that the hash names

module _ (p : Places) (k : BlockKey) (n : ℕ) (w : List Voxel) (placed : IsPlaced p) (cell : cell_of p.table k ≡ Some n) where
  change : IsChanged p.heap (with_block_at p.heap n w) n (Some (k, w))
  change = rewritten p.heap n (k, block_in p.heap n) w (placed.found k n cell)

  its_block : block_in (with_block_at p.heap n w) n ≡ w
  its_block = ap (λ o. voxels_of o new_block) change.here

  other_owner : (q : BlockKey) (m : ℕ) → q ≢ k → cell_of p.table q ≡ Some m → owner_at (with_block_at p.heap n w) m ≡ owner_at p.heap m
  other_owner q m other e = change.others m (λ s. other (owner_of p k q m n placed cell e s))

  found_still : (q : BlockKey) (m : ℕ) → cell_of p.table q ≡ Some m → owner_at (with_block_at p.heap n w) m ≡ Some (q, block_in (with_block_at p.heap n w) m)
  found_still q m e = by_key q k
      (λ s.
      let same : n ≡ m = the_same n m (sym cell ∙ ap (cell_of p.table) (sym s) ∙ e) in
      let here : owner_at (with_block_at p.heap n w) n ≡ Some (k, block_in (with_block_at p.heap n w) n) = change.here ∙ ap (λ v. Some (k, v)) (sym its_block) in
      subst (λ y. owner_at (with_block_at p.heap n w) m ≡ Some (y, block_in (with_block_at p.heap n w) m)) (sym s) (subst (λ y. owner_at (with_block_at p.heap n w) y ≡ Some (k, block_in (with_block_at p.heap n w) y)) same here))
      (λ other.
      let same = other_owner q m other e in
      same ∙ placed.found q m e ∙ ap (λ o. Some (q, voxels_of o new_block)) (sym same))

  owned_still : (q : BlockKey) (m : ℕ) (v : List Voxel) → owner_at (with_block_at p.heap n w) m ≡ Some (q, v) → cell_of p.table q ≡ Some m
  owned_still q m v e = by_number m n
      (λ s.
      let z : Some (k, w) ≡ Some (q, v) = sym change.here ∙ ap (owner_at (with_block_at p.heap n w)) (sym s) ∙ e in
      ap (cell_of p.table) (sym (ap (λ y. y.0) (the_same (k, w) (q, v) z))) ∙ cell ∙ ap Some (sym s))
      (λ differ. placed.owned q m v (sym (change.others m differ) ∙ e))

  pub placed_cell : IsPlaced (with_heap p (with_block_at p.heap n w))
  placed_cell =
      let count = placed.count in
      let room = placed.room in
      let cells = change.count in
      let free = ap length (rewritten_free p.heap n (k, block_in p.heap n) w (placed.found k n cell)) in
      record { found = found_still; owned = owned_still; apart = placed.apart; packed = placed.packed; count = omega arith; room = omega arith }

  pub blocks_cell : blocks_of (with_heap p (with_block_at p.heap n w)) ≡ insert (blocks_of p) k w
  blocks_cell = is-blocks (with_heap p (with_block_at p.heap n w)) (insert (blocks_of p) k w) (λ q. by_key q k
      (λ e. subst (λ x. or_else (in_heap (with_block_at p.heap n w) (cell_of p.table x)) (in_store (get p.store.contents x)) ≡ get (insert (blocks_of p) k w) x) (sym e)
      (ap (λ c. or_else (in_heap (with_block_at p.heap n w) c) (in_store (get p.store.contents k))) cell ∙ ap Some its_block ∙ sym (put_here (blocks_of p) k w)))
      (λ other.
      ap (λ o. or_else o (in_store (get p.store.contents q))) (same_resident p.heap (with_block_at p.heap n w) (cell_of p.table q) (cell_of p.table q) refl (λ m e. other_owner q m other e))
      ∙ sym (get-blocks p q) ∙ sym (put_elsewhere (blocks_of p) k q w other)))

-- ---- whether or not it has a cell

pub named_is : (p : Places) (k : BlockKey) (n : ℕ) (w : List Voxel) → cell_of p.table k ≡ Some n → with_heap p (with_block_at p.heap n w) ≡ with_block_of p k w
named_is p k n w cell = ap (λ c. with_heap p (with_block_in p.heap c w)) (sym cell)

pub placed_of : (p : Places) (k : BlockKey) (w : List Voxel) → IsPlaced p → IsPlaced (with_block_of p k w)
placed_of p k w placed = by (cell_of p.table k) refl
  where
    by : (c : Option ℕ) → cell_of p.table k ≡ c → IsPlaced (with_heap p (with_block_in p.heap c w))
    by None e = placed
    by (Some n) e = placed_cell p k n w placed e

pub blocks_with_of : (p : Places) (k : BlockKey) (w : List Voxel) → IsPlaced p → IsTrue (contains_key (contents p.table) k) → blocks_of (with_block_of p k w) ≡ insert (blocks_of p) k w
blocks_with_of p k w placed resident =
    let cell = some_of (cell_of p.table k) resident in
    sym (ap blocks_of (named_is p k cell.0 w cell.1)) ∙ blocks_cell p k cell.0 w placed cell.1

pub keeps_places : (p : Places) (k : BlockKey) (w : List Voxel) → IsPlaced p → KeepsPlaces p (with_block_of p k w)
keeps_places p k w placed = by (cell_of p.table k) refl
  where
    by : (c : Option ℕ) → cell_of p.table k ≡ c → KeepsPlaces p (with_heap p (with_block_in p.heap c w))
    by None e = record { table = refl; store = refl; free = refl; cells = refl }
    by (Some n) e =
        let owner = placed.found k n e in
        record {
          table = refl;
          store = refl;
          free = rewritten_free p.heap n (k, block_in p.heap n) w owner;
          cells = (rewritten p.heap n (k, block_in p.heap n) w owner).count;
        }
