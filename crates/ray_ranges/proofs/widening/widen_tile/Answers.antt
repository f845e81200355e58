use Rattle.std.proofs.Common.{ℕ, ◌/◌, ◌≤◌, refl, subst, sym}
use Rattle.ray_ranges.proofs.RangeLemmas.{SlabHas, one_done, slab_kept}
use Rattle.ray_ranges.proofs.SlabLemmas.{last_below, slab_order}
use Rattle.ray_ranges.proofs.widening.widen_tile.Goals as goal

pub loop-w-preserved : goal.loop-w-preserved
loop-w-preserved c =
    let a = c.args in
    let f = a.found in
    one_done a.shape a.ranges.now c.loop-w.ranges c.widen_slab.new.ranges (SlabHas a.shape a.tile f.first f.last) a.low c.loop-w.w (slab_kept a.shape a.tile f.first f.last) c.loop-w.invariant c.widen_slab.ensures.widened c.widen_slab.ensures.covers

pub returns-clause-widened : goal.returns-clause-widened
returns-clause-widened c = c.loop-w.invariant.widened

pub returns-clause-covers : goal.returns-clause-covers
returns-clause-covers c =
    let a = c.args in
    let n = a.shape.slab in
    let least = a.shape.slab_least in
    λ j from to. c.loop-w.invariant.each (j / n) (subst (λ (w : ℕ). w ≤ j / n) (sym c.requires.low) (slab_order n a.found.first j least from)) (last_below (j / n) a.high c.loop-w.w (subst (λ (w : ℕ). j / n ≤ w) (sym c.requires.high) (slab_order n j a.found.last least to)) c.loop-w-test.false) j refl from to
