-- Who owns the cells of a heap.
use Rattle.std.specs.Prelude.{ℕ, List, Option, slice_get}
use Rattle.std.specs.List.{filter_map}
use Rattle.std.specs.Option.{option_and_then, option_map, unwrap_or}
use Rattle.voxel_block.specs.declared.key.BlockKey.{BlockKey}
use Rattle.voxel_block.specs.declared.voxel.Voxel.{Voxel}
use Rattle.voxel_block.specs.Blocks.{new_block}
use Rattle.block_heap.specs.declared.cell.Cell.{Cell}
use Rattle.block_heap.specs.Cells.{Cells, content}

-- the key and the voxels of the cell of this number, nothing where it is free or not there
unfoldable pub owner_at : Cells → ℕ → Option (BlockKey × List Voxel)
owner_at h n = option_and_then content (slice_get h.cells n)

-- the keys and the voxels of the owned cells, in the order of their numbers
abbrev pub owned_blocks : List Cell → List (BlockKey × List Voxel)
owned_blocks cells = filter_map content cells

-- the voxels of an owner, and others where there is none
abbrev pub voxels_of : Option (BlockKey × List Voxel) → List Voxel → List Voxel
voxels_of owner others = unwrap_or (option_map (λ p. p.1) owner) others

-- the voxels of the cell of this number, new ones where it has none
abbrev pub block_in : Cells → ℕ → List Voxel
block_in h n = voxels_of (owner_at h n) new_block
