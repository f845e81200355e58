use Rattle.std.proofs.Common.{◌≡◌, ◌-◌, ◌++◌}
use Rattle.std.specs.Prelude.{replicate, vec_len, vec_capacity}
use Rattle.voxel_block.specs.Blocks.{new_block}
use Rattle.block_heap.specs.Cells.{numbers_down}
use Rattle.block_heap.specs.declared.cell.Cell.TheVariants.{Free}
use Rattle.block_heap.proofs.heap.Heap.make.Given as goal

abbrev pub invariant-loop-i : goal.invariant-loop-i
invariant-loop-i l = record {
  cells : l.cells.items ≡ replicate l.i (Free new_block);
  free : l.free.items ++ numbers_down (l.n - l.i) ≡ numbers_down l.n;
  cell_count : vec_len l.cells ≡ l.i;
  free_count : vec_len l.free ≡ l.i;
  cell_room : vec_capacity l.cells ≡ l.n;
  free_room : vec_capacity l.free ≡ l.n;
}
