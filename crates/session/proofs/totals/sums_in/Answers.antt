use Rattle.std.proofs.Common.{◌≡◌, sym, ap, subst, ◌∙◌, arith}
use Rattle.std.specs.Prelude.{Some, None}
use Rattle.session.specs.declared.totals.Sums.{Sums}
use Rattle.session.specs.Sums.{IsSum}
use Rattle.session.proofs.SumLemmas.{summed_cell}
use Rattle.session.proofs.totals.sums_in.Goals as goal
use Rattle.session.proofs.totals.sums_in.Goals.{in-Some, in_default}

pub loop-cell-preserved : goal.loop-cell-preserved
loop-cell-preserved c =
    let s = c.loop-cell.sums in
    let t = c.match-lend.sums in
    let cells = c.args.heap.now.cells in
    let i = c.loop-cell.cell in
    let few = c.loop-cell.invariant.few in
    elim c.match-lend.branch [
      | in-Some w ↦ (
          let same : t.known ≡ w.with_block-sums.result.known = ap (λ (u : Sums). u.known) w.sums-is in
          let more = w.with_block-sums.ensures.few in
          record {
            left = summed_cell s t cells i (Some (w.in-Some.key, w.in-Some.block.now)) _ w.in-Some.ensures.value (w.sums-is ∙ w.with_block-sums.ensures.value) c.loop-cell.invariant.left;
            sum = subst IsSum (sym w.sums-is) w.with_block-sums.ensures.sum;
            few = omega (arith, few, more, same);
          })
      | in_default w ↦ (
          let same : t.known ≡ s.known = ap (λ (u : Sums). u.known) w.sums-is in
          record {
            left = summed_cell s t cells i None _ w.in_default.ensures.value w.sums-is c.loop-cell.invariant.left;
            sum = subst IsSum (sym w.sums-is) c.loop-cell.invariant.sum;
            few = omega (arith, few, same);
          })
    ]
