-- The block of an owned cell of a heap, lent to be changed.
use Rattle.std.specs.Prelude.{ℕ, List, Option, Some, None, slice_get, slice_set, option_and_then}
use Rattle.std.specs.Borrow.{LendsIf, MutBor, Fml}
use Rattle.voxel_block.specs.declared.key.BlockKey.{BlockKey}
use Rattle.voxel_block.specs.declared.voxel.Voxel.{Voxel}
use Rattle.voxel_block.specs.contracts.block.Block.{the_row as block_row}
use Rattle.block_heap.specs.declared.cell.Cell.TheVariants.{Owned}
use Rattle.block_heap.specs.contracts.heap.Heap.{the_row as heap_row}
use Rattle.block_heap.specs.Cells.{Cells, content}

-- the heap in which the cell of number n, of this content, has another block; nothing changes where it was not owned
abbrev pub with_block_in : Cells → ℕ → Option (BlockKey × List Voxel) → List Voxel → Cells
with_block_in h n None w = h
with_block_in h n (Some owned) w = record { cells = slice_set h.cells n (Owned owned.0 w); free = h.free }

-- the heap in which the owned cell of number n has another block
abbrev pub with_block_at : Cells → ℕ → List Voxel → Cells
with_block_at h n w = with_block_in h n (option_and_then content (slice_get h.cells n)) w

-- the heap ends with the last value behind r in the cell of number n, or as it was where none was lent
abbrev pub LendsBlockAt : MutBor Cells → ℕ → Option (MutBor (List Voxel)) → Fml
LendsBlockAt s n r = LendsIf heap_row block_row s r (with_block_at s.now n) s.now
