use Rattle.ray_ranges.proofs.RangeLemmas.{RowHas, one_done, row_kept}
use Rattle.ray_ranges.proofs.SlabLemmas.{last_below}
use Rattle.ray_ranges.proofs.widening.widen_box.Goals as goal

pub loop-row-preserved : goal.loop-row-preserved
loop-row-preserved c =
    let a = c.args in
    let f = a.found in
    one_done a.shape a.ranges.now c.loop-row.ranges c.widen_row.new.ranges (RowHas a.shape f.left f.right f.first f.last) f.top c.loop-row.row (row_kept a.shape f.left f.right f.first f.last) c.loop-row.invariant c.widen_row.ensures.widened c.widen_row.ensures.covers

pub returns-clause-widened : goal.returns-clause-widened
returns-clause-widened c = c.loop-row.invariant.widened

pub returns-clause-covers : goal.returns-clause-covers
returns-clause-covers c = λ i r from to top bottom. c.loop-row.invariant.each r top (last_below r c.args.found.bottom c.loop-row.row bottom c.loop-row-test.false) i from to
