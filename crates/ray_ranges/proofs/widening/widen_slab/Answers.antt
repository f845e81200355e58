use Rattle.std.proofs.Common.{ℕ, ◌<◌, subst, sym}
use Rattle.ray_ranges.proofs.RangeLemmas.{slab_widened}
use Rattle.ray_ranges.proofs.SlabLemmas.{start_within, end_within}
use Rattle.ray_ranges.proofs.widening.widen_slab.Goals as goal

pub returns-clause-widened : goal.returns-clause-widened
returns-clause-widened c =
    let a = c.args in
    let s = a.shape in
    let i = c.range_index-index in
    let start = c.slab_start-start in
    slab_widened s a.ranges.now c.widen_at.new.ranges i.result a.tile a.w c.max.result c.min.result i.ensures.value c.requires.w (subst (λ (n : ℕ). i.result < n) (sym c.requires.length) i.ensures.bound)
    (start_within c.max.result a.first start.result s.slab a.w c.max.ensures start.ensures.value) (end_within c.min.result a.last start.result s.slab a.w s.slab_least c.min.ensures start.ensures.value) c.widen_at.ensures
