-- Places with no key.
use Rattle.std.proofs.Common.{◌≡◌, ℕ, zero, suc, ◌+◌, ◌*◌, List, length, refl, sym, ap, ◌∙◌, arith}
use Rattle.std.specs.Prelude.{Option, Some, None, replicate, slice_get}
use Rattle.std.specs.Option.{option_and_then}
use Rattle.std.specs.FinMap.{empty, get, len, get-empty, len-empty}
use Rattle.std.proofs.lemmas.List.{length-replicate}
use Rattle.voxel_block.specs.declared.key.BlockKey.{BlockKey}
use Rattle.voxel_block.specs.declared.voxel.Voxel.{Voxel}
use Rattle.voxel_block.specs.Blocks.{new_block}
use Rattle.voxel_block.specs.Keys.{key_cmp}
use Rattle.spatial_hash.specs.Contents.{contents}
use Rattle.block_heap.specs.declared.cell.Cell.TheVariants.{Free}
use Rattle.block_heap.specs.Cells.{Cells, content, new_cells, numbers_down}
use Rattle.streamer.specs.Owners.{owner_at}
use Rattle.streamer.specs.Places.{IsPlaced, Places, blocks_of, in_heap}
use Rattle.streamer.proofs.Blocks.{in_store, is-blocks, or_else}

no_owner : (b : List Voxel) (cells n : ℕ) → option_and_then content (slice_get (replicate cells (Free b)) n) ≡ None
no_owner b zero n = refl
no_owner b (suc cells) zero = refl
no_owner b (suc cells) (suc n) = no_owner b cells n

new_owner : (cells n : ℕ) → owner_at (new_cells cells) n ≡ None
unfolding owner_at
new_owner cells n = no_owner new_block cells n

length-numbers_down : (n : ℕ) → length (numbers_down n) ≡ n
length-numbers_down zero = refl
length-numbers_down (suc n) = ap suc (length-numbers_down n)

module _ (p : Places) (no_keys : contents p.table ≡ empty) (no_blocks : p.store.contents ≡ empty) where
  nothing : (k : BlockKey) → get (contents p.table) k ≡ None
  nothing k = ap (λ m. get m k) no_keys ∙ get-empty key_cmp k

  not_stored : (k : BlockKey) → get p.store.contents k ≡ None
  not_stored k = ap (λ m. get m k) no_blocks ∙ get-empty key_cmp k

  pub new_placed : (cells : ℕ) → p.table.nodes ≡ 2 * cells + 65 → p.heap ≡ new_cells cells → IsPlaced p
  new_placed cells nodes fresh =
      let keys : len (contents p.table) ≡ 0 = ap len no_keys ∙ len-empty key_cmp ℕ in
      let free : length p.heap.free ≡ cells = ap (λ (g : Cells). length g.free) fresh ∙ length-numbers_down cells in
      let all : length p.heap.cells ≡ cells = ap (λ (g : Cells). length g.cells) fresh ∙ length-replicate cells (Free new_block) in
      record {
        found = λ k n e. (let z : None ≡ Some n = sym (nothing k) ∙ e in absurd (cc));
        owned = λ k n v e. (let z : None ≡ Some (k, v) = sym (ap (λ g. owner_at g n) fresh ∙ new_owner cells n) ∙ e in absurd (cc));
        apart = λ k e. not_stored k;
        packed = λ k bytes e. (let z : ◌≡◌ {A = Option (List ℕ)} None (Some bytes) = sym (not_stored k) ∙ e in absurd (cc));
        count = omega arith;
        room = omega arith;
      }

  pub new_blocks : blocks_of p ≡ empty
  new_blocks = is-blocks p empty (λ q. (λ i. or_else (in_heap p.heap (nothing q i)) (in_store (not_stored q i))) ∙ sym (get-empty key_cmp q))
