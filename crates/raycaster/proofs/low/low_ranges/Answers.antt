use Rattle.std.proofs.Common.{◌+◌, ◌≤◌, length, sym, ◌∙◌, ap, subst}
use Rattle.std.specs.Prelude.{Some, None}
use Rattle.block_heap.specs.Cells.{Cells}
use Rattle.ray_ranges.specs.Tables.{Table}
use Rattle.raycaster.proofs.LowLemmas.{HaveCells, all_cells, all_low, cell_added, cell_passed, lent_owner}
use Rattle.raycaster.proofs.low.low_ranges.Goals as goal
use Rattle.raycaster.proofs.low.low_ranges.Goals.{in-Some, in_default}

pub loop-cell-preserved : goal.loop-cell-preserved
loop-cell-preserved c =
    let k = c.args.camera.now in
    let m = c.args.pose.now in
    let h = c.args.rest.now.heap in
    let r = c.loop-cell.ranges in
    let n = c.loop-cell.cell in
    elim c.match-lend.branch [
      | in-Some w ↦ subst (λ (t : Table). HaveCells k m h t (n + 1)) (sym w.ranges-is)
          (cell_added k m h r n c.loop-cell.invariant w.add_block.new.ranges w.in-Some.key w.in-Some.block.now (lent_owner h c.heap-heap.result.now n (Some (w.in-Some.key, w.in-Some.block.now)) w.in-Some.ensures.value c.heap-heap.ensures.value) w.add_block.ensures.wider w.add_block.ensures.has)
      | in_default w ↦ subst (λ (t : Table). HaveCells k m h t (n + 1)) (sym w.ranges-is) (cell_passed k m h r n c.loop-cell.invariant (lent_owner h c.heap-heap.result.now n None w.in_default.ensures.value c.heap-heap.ensures.value))
    ]

pub returns : goal.returns
returns c =
    let k = c.args.camera.now in
    let m = c.args.pose.now in
    let p = c.args.rest.now in
    let r = c.loop-cell.ranges in
    let n = c.loop-cell.cell in
    let count = c.cell_count-cell-end.ensures.value ∙ ap (λ (h : Cells). length h.cells) c.heap-heap.ensures.value in
    all_low k m p c.heap-heap.ensures.placed r c.loop-cell.invariant.camera (all_cells k m p.heap r n c.loop-cell.invariant (subst (λ e. e ≤ n) count c.loop-cell-test.false))
