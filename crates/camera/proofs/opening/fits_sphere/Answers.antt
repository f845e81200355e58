use Rattle.std.proofs.Common.{◌≡◌, refl, rules}
use Rattle.std.proofs.lemmas.Int.{to_z-of_z}
use mir.Val.{to_z, of_z}
use mir.Syntax.{w64}
use Rattle.camera.proofs.opening.fits_sphere.Goals as goal

pub returns : goal.returns
returns c =
    let opening_margin : to_z w64 (of_z w64 c.opening_margin-m.result) ≡ c.opening_margin-m.result = search (rules, to_z-of_z) in
    let rounding : to_z w64 (of_z w64 c.rounding.result) ≡ c.rounding.result = search (rules, to_z-of_z) in
    let z : to_z w64 (of_z w64 c.reach_z.result) ≡ c.reach_z.result = search (rules, to_z-of_z) in
    let max_depth : to_z w64 (of_z w64 c.max_depth-z.result) ≡ c.max_depth-z.result = search (rules, to_z-of_z) in
    let x = to_z-of_z w64 c.args.x c.ranges.x in
    let y = to_z-of_z w64 c.args.y c.ranges.y in
    let centre : to_z w64 (of_z w64 c.args.k.centre) ≡ c.args.k.centre = search (rules, to_z-of_z) in
    let voxel : to_z w64 (of_z w64 c.args.k.voxel) ≡ c.args.k.voxel = search (rules, to_z-of_z) in
    let radius : to_z w64 (of_z w64 c.args.k.radius) ≡ c.args.k.radius = search (rules, to_z-of_z) in
    rw (c.is_in_sphere.ensures, opening_margin, c.opening_margin-m.ensures.value, rounding, c.rounding.ensures.value, z, c.reach_z.ensures.value, max_depth, c.max_depth-z.ensures.value, x, y, centre, voxel, radius, c.requires.x, c.requires.y) refl
