use Rattle.std.proofs.Common.{◌∙◌, ap}
use Rattle.std.specs.Prelude.{ℤ}
use Rattle.camera.specs.Visibility.{is_at_depth, is_in_view}
use Rattle.camera.proofs.Readings.{wide_read}
use Rattle.camera.proofs.VisibilityLemmas.{first_tells, second_tells}
use Rattle.camera.proofs.visibility.may_see.Goals as goal

pub returns-then-is_at_depth : goal.returns-then-is_at_depth
returns-then-is_at_depth c =
    let k = c.args.camera.now in
    let p = c.args.centre in
    second_tells (is_at_depth k p.z) (is_in_view k p) c.is_at_depth.result c.is_in_view.result c.if-is_at_depth.true
    (c.is_at_depth.ensures ∙ ap (λ (z : ℤ). is_at_depth k z) (wide_read p.z c.requires.centre.z)) c.is_in_view.ensures

pub returns-else-is_at_depth : goal.returns-else-is_at_depth
returns-else-is_at_depth c =
    let k = c.args.camera.now in
    let p = c.args.centre in
    first_tells (is_at_depth k p.z) (is_in_view k p) c.is_at_depth.result c.if-is_at_depth.false (c.is_at_depth.ensures ∙ ap (λ (z : ℤ). is_at_depth k z) (wide_read p.z c.requires.centre.z))
