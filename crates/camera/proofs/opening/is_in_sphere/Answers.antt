use Rattle.std.proofs.Common.{◌≡◌, refl, rules}
use Rattle.std.proofs.lemmas.Int.{to_z-of_z}
use mir.Val.{to_z, of_z}
use mir.Syntax.{w64}
use Rattle.camera.proofs.OpeningLemmas.{two_fit, three_fit, three_are}
use Rattle.camera.proofs.opening.is_in_sphere.Goals as goal

pub overflow_add-result : goal.overflow_add-result
overflow_add-result c = two_fit c.wide_square-x.result c.wide_square-y.result c.wide_square-x.ensures.low c.wide_square-x.ensures.high c.wide_square-y.ensures.low c.wide_square-y.ensures.high

pub overflow_add-result-2 : goal.overflow_add-result-2
overflow_add-result-2 c = three_fit c.wide_square-x.result c.wide_square-y.result c.wide_square-z.result c.wide_square-x.ensures.low c.wide_square-x.ensures.high c.wide_square-y.ensures.low c.wide_square-y.ensures.high c.wide_square-z.ensures.low c.wide_square-z.ensures.high

pub returns : goal.returns
returns c =
    let three = three_are c.wide_square-x.result c.wide_square-y.result c.wide_square-z.result c.wide_square-x.ensures.low c.wide_square-x.ensures.high c.wide_square-y.ensures.low c.wide_square-y.ensures.high c.wide_square-z.ensures.low c.wide_square-z.ensures.high in
    let square : to_z w64 (of_z w64 c.square.result) ≡ c.square.result = search (rules, to_z-of_z) in
    let x = to_z-of_z w64 c.args.x c.ranges.x in
    let y = to_z-of_z w64 c.args.y c.ranges.y in
    let z = to_z-of_z w64 c.args.z c.ranges.z in
    let opening_margin = to_z-of_z w64 c.args.opening_margin c.ranges.opening_margin in
    let radius = to_z-of_z w64 c.args.radius c.ranges.radius in
    rw (three, square, c.square.ensures.value, c.wide_square-x.ensures.value, c.wide_square-y.ensures.value, c.wide_square-z.ensures.value, x, y, z, opening_margin, radius) refl
