use Rattle.std.proofs.Common.{ℕ, subst}
use Rattle.ray_ranges.specs.Tables.{HasPoints}
use Rattle.ray_ranges.proofs.RangeLemmas.{ColumnHas, column_kept, one_done}
use Rattle.ray_ranges.proofs.SlabLemmas.{last_below}
use Rattle.ray_ranges.proofs.widening.widen_row.Goals as goal

pub loop-column-preserved : goal.loop-column-preserved
loop-column-preserved c =
    let a = c.args in
    let f = a.found in
    one_done a.shape a.ranges.now c.loop-column.ranges c.widen_tile.new.ranges (ColumnHas a.shape a.row f.first f.last) f.left c.loop-column.column (column_kept a.shape a.row f.first f.last) c.loop-column.invariant c.widen_tile.ensures.widened
    (subst (λ (t : ℕ). HasPoints a.shape c.widen_tile.new.ranges t f.first f.last) c.tile_number-tile.ensures.value c.widen_tile.ensures.covers)

pub returns-clause-widened : goal.returns-clause-widened
returns-clause-widened c = c.loop-column.invariant.widened

pub returns-clause-covers : goal.returns-clause-covers
returns-clause-covers c = λ i from to. c.loop-column.invariant.each i from (last_below i c.args.found.right c.loop-column.column to c.loop-column-test.false)
