use Rattle.std.proofs.Common.{◌≡◌, ◌&&◌, sym, ap, ◌∙◌}
use Rattle.std.specs.Prelude.{ℤ, pos}
use Rattle.std.specs.Ordering.{int_eq}
use mir.Val.{to_z, of_z}
use mir.Syntax.{w64}
use Rattle.camera.proofs.Readings.{fields_read}
use Rattle.fusion_core.proofs.frame.has_size.Goals as goal

pub returns-then-is_side-clause-value : goal.returns-then-is_side-clause-value
returns-then-is_side-clause-value c =
    let k = c.args.camera.now in
    let d = c.args.depths.now in
    let is = c.fields-fields.ensures.value in
    let r = fields_read k c.fields-fields.ensures.camera.ranges in
    let wide : c.is_side.result ≡ int_eq (pos d.width) k.width = c.is_side.ensures ∙ (λ i. int_eq (pos (c.width.ensures i)) (to_z w64 (of_z w64 (is i).width))) ∙ ap (λ (z : ℤ). int_eq (pos d.width) z) r.width in
    let high : c.is_side-then-is_side.result ≡ int_eq (pos d.height) k.height = c.is_side-then-is_side.ensures ∙ (λ i. int_eq (pos (c.height.ensures i)) (to_z w64 (of_z w64 (is i).height))) ∙ ap (λ (z : ℤ). int_eq (pos d.height) z) r.height in
    high ∙ ap (λ b. b && int_eq (pos d.height) k.height) (sym c.if-is_side.true ∙ wide)

pub returns-else-is_side-clause-value : goal.returns-else-is_side-clause-value
returns-else-is_side-clause-value c =
    let k = c.args.camera.now in
    let d = c.args.depths.now in
    let is = c.fields-fields.ensures.value in
    let r = fields_read k c.fields-fields.ensures.camera.ranges in
    let wide : c.is_side.result ≡ int_eq (pos d.width) k.width = c.is_side.ensures ∙ (λ i. int_eq (pos (c.width.ensures i)) (to_z w64 (of_z w64 (is i).width))) ∙ ap (λ (z : ℤ). int_eq (pos d.width) z) r.width in
    c.if-is_side.false ∙ ap (λ b. b && int_eq (pos d.height) k.height) (sym c.if-is_side.false ∙ wide)
