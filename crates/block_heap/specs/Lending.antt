-- The block of an owned cell, lent to be changed.
use Rattle.std.specs.Prelude.{List, Option}
use Rattle.std.specs.Borrow.{LendsIf, MutBor, Fml}
use Rattle.voxel_block.specs.declared.voxel.Voxel.{Voxel}
use Rattle.voxel_block.specs.contracts.block.Block.{the_row as block_row}
use Rattle.block_heap.specs.declared.cell.Cell.{Cell}
use Rattle.block_heap.specs.declared.cell.Cell.TheVariants.{Free, Owned}
use Rattle.block_heap.specs.contracts.cell.Cell.{the_row as cell_row}

-- an owned cell with another block, a free one as it is
abbrev pub with_block : Cell → List Voxel → Cell
with_block (Free b) w = Free b
with_block (Owned k b) w = Owned k w

-- the cell ends with the last value behind r, or as it was where none was lent
abbrev pub LendsBlock : MutBor Cell → Option (MutBor (List Voxel)) → Fml
LendsBlock s r = LendsIf cell_row block_row s r (with_block s.now) s.now
