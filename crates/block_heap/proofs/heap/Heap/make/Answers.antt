use Rattle.std.proofs.Common.{◌≡◌, ◌∙◌, ◌≤◌, [], ◌∷◌, ◌++◌, ap, sym, arith}
use Rattle.std.specs.Prelude.{replicate}
use Rattle.std.proofs.lemmas.List.{replicate_more}
use Rattle.voxel_block.specs.Blocks.{new_block}
use Rattle.block_heap.specs.declared.cell.Cell.TheVariants.{Free}
use Rattle.block_heap.proofs.FreeLists.{new_list_of, numbers_all, numbers_more}
use Rattle.block_heap.proofs.heap.Heap.make.Goals as goal

pub loop-i-preserved : goal.loop-i-preserved
loop-i-preserved c =
    let so_far = c.loop-i.invariant in
    let new_cell : Free c.in_ok-make.field-0 ≡ Free new_block = ap Free c.in_ok-make.ensures in
    record {
      cells = c.push_reserved.ensures.items ∙ (λ k. so_far.cells k ++ new_cell k ∷ []) ∙ replicate_more c.loop-i.i (Free new_block);
      free = numbers_more c.args.n c.loop-i.i c.loop-i.free.items _ c.loop-i-test.true c.push_reserved-in-loop-i.ensures.items so_far.free;
      cell_count = omega (arith, c.push_reserved.ensures.len, so_far.cell_count);
      free_count = omega (arith, c.push_reserved-in-loop-i.ensures.len, so_far.free_count);
      cell_room = c.push_reserved.ensures.capacity ∙ so_far.cell_room;
      free_room = c.push_reserved-in-loop-i.ensures.capacity ∙ so_far.free_room;
    }

pub returns-clause-list : goal.returns-clause-list
returns-clause-list c =
    let so_far = c.loop-i.invariant in
    let whole : c.args.n ≡ c.loop-i.i = omega arith in
    let end : c.args.n ≤ c.loop-i.i = omega arith in
    new_list_of c.args.n new_block c.loop-i.cells.items c.loop-i.free.items (so_far.cells ∙ ap (λ k. replicate k (Free new_block)) (sym whole)) (numbers_all c.args.n c.loop-i.i c.loop-i.free.items end so_far.free)

pub invariant_of-result : goal.invariant_of-result
invariant_of-result c =
    let so_far = c.loop-i.invariant in
    let end : c.loop-i.i ≡ c.args.n = omega arith in
    (returns-clause-list c, omega (arith, so_far.cell_count), omega (arith, so_far.cell_count, so_far.free_room))
