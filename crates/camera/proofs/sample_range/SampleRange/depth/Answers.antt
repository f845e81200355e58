use Rattle.std.proofs.Common.{subst, sym}
use Rattle.std.specs.Prelude.{pos, ◌≤ℤ◌, IfSome}
use Rattle.camera.proofs.SampleLemmas.{depth_shown, range_read}
use Rattle.camera.proofs.sample_range.SampleRange.depth.Goals as goal

pub returns-clause-value : goal.returns-clause-value
returns-clause-value c = λ k is.
    let s = c.args.self in
    range_read k c.args.raw s.unit s.least s.most c.from.result c.units.result c.is_between.result c.then_some.result is s.least_within s.most_within s.unit_low s.unit_high c.ranges.raw.fits (record { sfits = c.units.type_inv })
    c.from.ensures c.is_between.ensures c.units.ensures c.then_some.ensures

pub returns-clause-range : goal.returns-clause-range
returns-clause-range c = λ k is. subst (λ o. IfSome o (λ d. (pos 1 ≤ℤ d) × (d ≤ℤ k.far))) (sym (returns-clause-value c k is)) (depth_shown k c.args.raw is.ranges)
