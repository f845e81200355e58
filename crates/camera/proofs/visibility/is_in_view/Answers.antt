use Rattle.std.proofs.Common.{◌≡◌, ◌∙◌, ap}
use Rattle.camera.specs.Visibility.{margin, side_depth, is_between_sides}
use Rattle.camera.proofs.Readings.{read, fields_read, wide_read}
use Rattle.camera.proofs.VisibilityLemmas.{depth_read, first_tells, second_tells, sides_read, small_read}
use Rattle.camera.proofs.visibility.is_in_view.Goals as goal

pub returns-then-is_between_sides : goal.returns-then-is_between_sides
returns-then-is_between_sides c =
    let k = c.args.camera.now in
    let p = c.args.centre in
    let near = c.requires.centre in
    let is = fields_read k c.requires.camera in
    let n = c.margin-margin in
    let h = c.side_depth-depth in
    let n_is : read n.result ≡ margin k = small_read n.result n.ensures.bound ∙ n.ensures.value in
    let h_is : read h.result ≡ side_depth k p.z = depth_read h.result h.ensures.bound ∙ h.ensures.value ∙ ap (side_depth k) (wide_read p.z near.z) in
    second_tells (is_between_sides k.fx k.cx k.width (margin k) p.x (side_depth k p.z)) (is_between_sides k.fy k.cy k.height (margin k) p.y (side_depth k p.z)) c.is_between_sides.result c.is_between_sides-then-is_between_sides.result c.if-is_between_sides.true
    (sides_read c.is_between_sides.result k.fx k.cx k.width n.result p.x h.result (margin k) (side_depth k p.z) is.fx is.cx is.width n_is (wide_read p.x near.x) h_is c.is_between_sides.ensures)
    (sides_read c.is_between_sides-then-is_between_sides.result k.fy k.cy k.height n.result p.y h.result (margin k) (side_depth k p.z) is.fy is.cy is.height n_is (wide_read p.y near.y) h_is c.is_between_sides-then-is_between_sides.ensures)

pub returns-else-is_between_sides : goal.returns-else-is_between_sides
returns-else-is_between_sides c =
    let k = c.args.camera.now in
    let p = c.args.centre in
    let near = c.requires.centre in
    let is = fields_read k c.requires.camera in
    let n = c.margin-margin in
    let h = c.side_depth-depth in
    let n_is : read n.result ≡ margin k = small_read n.result n.ensures.bound ∙ n.ensures.value in
    let h_is : read h.result ≡ side_depth k p.z = depth_read h.result h.ensures.bound ∙ h.ensures.value ∙ ap (side_depth k) (wide_read p.z near.z) in
    first_tells (is_between_sides k.fx k.cx k.width (margin k) p.x (side_depth k p.z)) (is_between_sides k.fy k.cy k.height (margin k) p.y (side_depth k p.z)) c.is_between_sides.result c.if-is_between_sides.false
    (sides_read c.is_between_sides.result k.fx k.cx k.width n.result p.x h.result (margin k) (side_depth k p.z) is.fx is.cx is.width n_is (wide_read p.x near.x) h_is c.is_between_sides.ensures)
