use Rattle.std.proofs.Common.{◌∙◌, arith, subst, sym}
use Rattle.std.specs.Prelude.{ℤ, pos, ◌*ℤ◌, ◌≤ℤ◌}
use Rattle.std.proofs.lemmas.Int.{ints, to_z-of_z}
use mir.Syntax.{w64}
use Rattle.fixed_geom.specs.Vectors.{IsWithin}
use Rattle.fixed_geom.proofs.Machine.{read}
use Rattle.camera.specs.Cameras.{ray_axis}
use Rattle.ray_walk.proofs.RayQuotients.{IsNumerator, divisor, divisor_least, few, lowered_is, numerator_read, product_within, quotient_is, raise_read, raise_within, raised_least, raised_most, sum_read}
use Rattle.ray_walk.proofs.ray.RayAxis.coordinate.Goals as goal

pub numerator-requires : goal.numerator-requires
numerator-requires c =
    let a = c.args.self.now in
    let n = numerator_read c.args.self.now c.args.u c.args.z c.pixel_offset.result c.times-offset.result c.requires.near c.ranges.z (record { sfits = c.pixel_offset.type_inv }) (record { sfits = c.times-offset.type_inv }) c.pixel_offset.ensures.value c.times-offset.ensures.value in
    product_within (divisor a) _ (read c.times-offset.result *ℤ read c.args.z) (omega (arith, ints, divisor_least a)) a.small n

pub raised-requires-clause-n : goal.raised-requires-clause-n
raised-requires-clause-n c =
    let a = c.args.self.now in
    let n = numerator_read c.args.self.now c.args.u c.args.z c.pixel_offset.result c.times-offset.result c.requires.near c.ranges.z (record { sfits = c.pixel_offset.type_inv }) (record { sfits = c.times-offset.type_inv }) c.pixel_offset.ensures.value c.times-offset.ensures.value in
    subst (IsWithin (pos 72057594037927936)) (sym (to_z-of_z w64 c.numerator.result (record { sfits = c.numerator.type_inv }) ∙ c.numerator.ensures))
    (product_within (divisor a) _ (read c.times-offset.result *ℤ read c.args.z) (omega (arith, ints, divisor_least a)) a.small n)

pub raised-requires-clause-raise : goal.raised-requires-clause-raise
raised-requires-clause-raise c =
    let a = c.args.self.now in
    subst (IsWithin (pos 72057594037927936)) (sym (raise_read a)) (raise_within (divisor a) (omega (arith, ints, divisor_least a)) a.small)

pub raised-requires-clause-least : goal.raised-requires-clause-least
raised-requires-clause-least c =
    let n = numerator_read c.args.self.now c.args.u c.args.z c.pixel_offset.result c.times-offset.result c.requires.near c.ranges.z (record { sfits = c.pixel_offset.type_inv }) (record { sfits = c.times-offset.type_inv }) c.pixel_offset.ensures.value c.times-offset.ensures.value in
    subst (λ (z : ℤ). pos 0 ≤ℤ z) (sym (sum_read c.args.self.now c.numerator.result c.times-offset.result c.args.z (record { sfits = c.numerator.type_inv }) c.numerator.ensures)) n.least

pub quotient-requires-clause-n : goal.quotient-requires-clause-n
quotient-requires-clause-n c =
    let n = numerator_read c.args.self.now c.args.u c.args.z c.pixel_offset.result c.times-offset.result c.requires.near c.ranges.z (record { sfits = c.pixel_offset.type_inv }) (record { sfits = c.times-offset.type_inv }) c.pixel_offset.ensures.value c.times-offset.ensures.value in
    few _ c.raised.result (c.raised.ensures ∙ sum_read c.args.self.now c.numerator.result c.times-offset.result c.args.z (record { sfits = c.numerator.type_inv }) c.numerator.ensures) n.most

pub returns-clause-value : goal.returns-clause-value
returns-clause-value c =
    let a = c.args.self.now in
    let x = ray_axis a.focal a.centre (pos c.args.u) c.args.z in
    let n = numerator_read c.args.self.now c.args.u c.args.z c.pixel_offset.result c.times-offset.result c.requires.near c.ranges.z (record { sfits = c.pixel_offset.type_inv }) (record { sfits = c.times-offset.type_inv }) c.pixel_offset.ensures.value c.times-offset.ensures.value in
    let raised : IsNumerator (divisor a) x (pos c.raised.result) = subst (IsNumerator (divisor a) x) (sym (c.raised.ensures ∙ sum_read c.args.self.now c.numerator.result c.times-offset.result c.args.z (record { sfits = c.numerator.type_inv }) c.numerator.ensures)) n in
    lowered_is x c.quotient.result c.requires.near (quotient_is (divisor a) x c.raised.result a.reciprocal c.quotient.result (divisor_least a) a.small raised a.parts c.quotient.ensures)

pub returns-clause-low : goal.returns-clause-low
returns-clause-low c =
    let a = c.args.self.now in
    let x = ray_axis a.focal a.centre (pos c.args.u) c.args.z in
    let n = numerator_read c.args.self.now c.args.u c.args.z c.pixel_offset.result c.times-offset.result c.requires.near c.ranges.z (record { sfits = c.pixel_offset.type_inv }) (record { sfits = c.times-offset.type_inv }) c.pixel_offset.ensures.value c.times-offset.ensures.value in
    let raised : IsNumerator (divisor a) x (pos c.raised.result) = subst (IsNumerator (divisor a) x) (sym (c.raised.ensures ∙ sum_read c.args.self.now c.numerator.result c.times-offset.result c.args.z (record { sfits = c.numerator.type_inv }) c.numerator.ensures)) n in
    raised_least x c.quotient.result c.requires.near (quotient_is (divisor a) x c.raised.result a.reciprocal c.quotient.result (divisor_least a) a.small raised a.parts c.quotient.ensures)

pub returns-clause-high : goal.returns-clause-high
returns-clause-high c =
    let a = c.args.self.now in
    let x = ray_axis a.focal a.centre (pos c.args.u) c.args.z in
    let n = numerator_read c.args.self.now c.args.u c.args.z c.pixel_offset.result c.times-offset.result c.requires.near c.ranges.z (record { sfits = c.pixel_offset.type_inv }) (record { sfits = c.times-offset.type_inv }) c.pixel_offset.ensures.value c.times-offset.ensures.value in
    let raised : IsNumerator (divisor a) x (pos c.raised.result) = subst (IsNumerator (divisor a) x) (sym (c.raised.ensures ∙ sum_read c.args.self.now c.numerator.result c.times-offset.result c.args.z (record { sfits = c.numerator.type_inv }) c.numerator.ensures)) n in
    raised_most x c.quotient.result c.requires.near (quotient_is (divisor a) x c.raised.result a.reciprocal c.quotient.result (divisor_least a) a.small raised a.parts c.quotient.ensures)
