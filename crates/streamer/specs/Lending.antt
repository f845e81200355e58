-- The block of a resident key, lent to be changed.
use Rattle.std.specs.Prelude.{◌≡◌, ℕ, List, length, Option, Some, None}
use Rattle.std.specs.Borrow.{LendsIf, MutBor, Fml}
use Rattle.voxel_block.specs.declared.key.BlockKey.{BlockKey}
use Rattle.voxel_block.specs.declared.voxel.Voxel.{Voxel}
use Rattle.voxel_block.specs.contracts.block.Block.{the_row as block_row}
use Rattle.block_heap.specs.Cells.{Cells}
use Rattle.block_heap.specs.HeapLending.{with_block_at}
use Rattle.streamer.specs.contracts.rest.Rest.{the_row as places_row}
use Rattle.streamer.specs.Places.{Places, cell_of}

-- the places with another heap
abbrev pub with_heap : Places → Cells → Places
with_heap p h = record p { heap = h }

-- the heap with another block in the cell that the hash names, as it is where it names none
abbrev pub with_block_in : Cells → Option ℕ → List Voxel → Cells
with_block_in h None w = h
with_block_in h (Some n) w = with_block_at h n w

-- the places with another block of a key, if the key is resident
abbrev pub with_block_of : Places → BlockKey → List Voxel → Places
with_block_of p k w = with_heap p (with_block_in p.heap (cell_of p.table k) w)

-- the same keys are in the heap, each in its cell, and the store is as it was
pub record KeepsPlaces (p r : Places) : Type 0 where
  pub table : r.table ≡ p.table
  pub store : r.store ≡ p.store
  pub free : r.heap.free ≡ p.heap.free
  pub cells : length r.heap.cells ≡ length p.heap.cells

-- the places end with the last value behind r as the key's block, or as they were where none was lent
abbrev pub LendsBlockOf : MutBor Places → BlockKey → Option (MutBor (List Voxel)) → Fml
LendsBlockOf s k r = LendsIf places_row block_row s r (with_block_of s.now k) s.now
