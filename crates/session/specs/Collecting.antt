-- Blocks that are removed from the heap.
use Rattle.std.specs.Prelude.{◌≡◌, ℕ, ℤ, Bool, false, ◌&&◌, not, if◌then◌else◌, List, length, Option, None, option_map}
use Rattle.std.specs.FinMap.{contains_key, get}
use Rattle.voxel_block.specs.declared.key.BlockKey.{BlockKey}
use Rattle.voxel_block.specs.declared.voxel.Voxel.{Voxel}
use Rattle.spatial_hash.specs.Contents.{contents}
use Rattle.spatial_hash.specs.Table.{KeepsSize}
use Rattle.block_heap.specs.Cells.{Cells}
use Rattle.streamer.specs.Places.{IsPlaced, Places, blocks_of, cell_of, in_heap}
use Rattle.session.specs.Fold.{is_empty_at}

-- whether the block in this cell, if there is one, is empty
abbrev pub is_empty_in : (empty_f : ℤ) → Cells → (cell : Option ℕ) → Bool
is_empty_in e h cell = is_empty_at e (in_heap h cell)

-- the same of a cell by its owner and block
abbrev pub is_empty_owner : (empty_f : ℤ) → (owner : Option (BlockKey × List Voxel)) → Bool
is_empty_owner e owner = is_empty_at e (option_map (λ o. o.1) owner)

-- the resident blocks that are empty are no longer known, and all others are as they were
pub record Collects (empty_f : ℤ) (p r : Places) : Type 0 where
  pub blocks : (b : BlockKey) → get (blocks_of r) b ≡ (if is_empty_in empty_f p.heap (cell_of p.table b) then None else get (blocks_of p) b)
  pub resident : (b : BlockKey) → contains_key (contents r.table) b ≡ (contains_key (contents p.table) b && not (is_empty_in empty_f p.heap (cell_of p.table b)))
  pub store : r.store ≡ p.store
  pub cells : length r.heap.cells ≡ length p.heap.cells
  pub size : KeepsSize p.table r.table
  pub placed : IsPlaced r
