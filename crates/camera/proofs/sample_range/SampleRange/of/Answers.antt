use Rattle.std.proofs.Common.{subst, sym}
use Rattle.std.specs.Prelude.{pos, ◌+ℤ◌}
use Rattle.fixed_geom.proofs.Machine.{read}
use Rattle.camera.specs.Cameras.{IsCamera}
use Rattle.camera.specs.SampleRanges.{IsRangeOf}
use Rattle.camera.proofs.SampleLemmas.{far_least, least_made, most_made, near_least, range_made, unit_least}
use Rattle.camera.proofs.sample_range.SampleRange.of.Goals as goal

pub whole_units-requires-clause-depth : goal.whole_units-requires-clause-depth
whole_units-requires-clause-depth c =
    let is = subst IsCamera (sym c.fields-fields.ensures.value) c.fields-fields.ensures.camera in
    near_least c.fields-fields.result is.ranges

pub whole_units-requires-2-clause-depth : goal.whole_units-requires-2-clause-depth
whole_units-requires-2-clause-depth c =
    let is = subst IsCamera (sym c.fields-fields.ensures.value) c.fields-fields.ensures.camera in
    far_least c.fields-fields.result is.ranges

pub invariant_of-result : goal.invariant_of-result
invariant_of-result c =
    let is = subst IsCamera (sym c.fields-fields.ensures.value) c.fields-fields.ensures.camera in
    let unit = unit_least c.fields-fields.result is.ranges in
    record {
      unit_low = unit.0;
      unit_high = unit.1;
      least_within = least_made c.whole_units.result c.whole_units.ensures.low c.whole_units.ensures.high;
      most_within = most_made c.whole_units-2.result c.whole_units-2.ensures.low c.whole_units-2.ensures.high;
    }

pub returns : goal.returns
returns c =
    let k = c.fields-fields.result in
    let is = subst IsCamera (sym c.fields-fields.ensures.value) c.fields-fields.ensures.camera in
    let near = c.whole_units.ensures in
    let far = c.whole_units-2.ensures in
    subst (λ q. IsRangeOf q (read k.unit) (read (read c.whole_units.result +ℤ pos 1)) (read c.whole_units-2.result)) c.fields-fields.ensures.value
    (range_made k c.whole_units.result c.whole_units-2.result is.ranges near.value far.value near.low near.high far.low far.high)
