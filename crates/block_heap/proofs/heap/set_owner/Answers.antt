use Rattle.std.proofs.Common.{◌≡◌, ◌∙◌, ◌-◌, length, set, ap, sym, arith}
use Rattle.std.proofs.lemmas.Option.{get_or_from_slice_get}
use Rattle.block_heap.proofs.CellEdits.{IsTakenOut, changed_by_swap}
use Rattle.block_heap.specs.Cells.{with_owner}
use Rattle.block_heap.proofs.heap.set_owner.Goals as goal

pub returns-clause-cells : goal.returns-clause-cells
returns-clause-cells c = λ old is.
    let before = c.args.cells.now in
    let taken = c.swap_remove-cell.new.self in
    let pushed = c.push_reserved.new.self in
    let after = c.swap.new.self in
    let count = before.ok.0 in
    let count_taken = taken.ok.0 in
    let count_after = after.ok.0 in
    let out : IsTakenOut before.items taken.items c.args.i before.len = record {
      here = c.swap_remove-cell.ensures.by_index.0;
      others = c.swap_remove-cell.ensures.by_index.1;
      before = sym count;
      after = omega arith;
    } in
    let last : c.len-last.result - 1 ≡ length taken.items = omega arith in
    let same : length after.items ≡ length before.items = omega arith in
    changed_by_swap before.items taken.items pushed.items after.items c.args.i before.len (c.len-last.result - 1) c.with_owner.result out c.requires c.push_reserved.ensures.items last c.swap.ensures.by_index same
    ∙ ap (set before.items c.args.i) (c.with_owner.ensures ∙ ap (λ x. with_owner x c.args.owner) (c.swap_remove-cell.ensures.value ∙ get_or_from_slice_get before.items c.args.i old c.swap_remove-cell.result is))
