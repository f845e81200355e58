use Rattle.std.proofs.Common.{◌≡◌, refl, rules}
use Rattle.std.proofs.lemmas.Int.{to_z-of_z}
use mir.Val.{to_z, of_z}
use mir.Syntax.{w64}
use Rattle.camera.proofs.OpeningLemmas.{plus_one}
use Rattle.camera.proofs.opening.reach.Goals as goal

pub returns-clause-value : goal.returns-clause-value
returns-clause-value c =
    let next = plus_one c.floor.result c.product.result c.floor.ensures.low c.floor.ensures.high c.product.ensures.low c.product.ensures.high in
    let product : to_z w64 (of_z w64 c.product.result) ≡ c.product.result = search (rules, to_z-of_z) in
    let half : to_z w64 (of_z w64 c.half.result) ≡ c.half.result = search (rules, to_z-of_z) in
    let z = to_z-of_z w64 c.args.z c.ranges.z in
    let focal = to_z-of_z w64 c.args.focal c.ranges.focal in
    let size = to_z-of_z w64 c.args.size c.ranges.size in
    let centre = to_z-of_z w64 c.args.c c.ranges.c in
    rw (next, c.floor.ensures.value, product, c.product.ensures.value, half, c.half.ensures.value, z, focal, size, centre) refl
