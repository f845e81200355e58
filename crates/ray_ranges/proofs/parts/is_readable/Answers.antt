use Rattle.std.proofs.Common.{◌≡◌, rules}
use Rattle.std.proofs.lemmas.Int.{to_z-of_z}
use mir.Val.{to_z, of_z}
use mir.Syntax.{w16, w64}
use Rattle.ray_ranges.proofs.PartLemmas.{one_axis, three_axes}
use Rattle.ray_ranges.proofs.parts.is_readable.Goals as goal

pub returns-then-not-is_readable_axis : goal.returns-then-not-is_readable_axis
returns-then-not-is_readable_axis c =
    let k = c.args.key in
    let x : to_z w16 (of_z w16 k.x) ≡ k.x = search (rules, to_z-of_z) in
    one_axis c.args.voxel _ k k.x _ c.is_readable_axis.result (to_z-of_z w64 c.args.voxel c.ranges.voxel) x c.if-not-is_readable_axis.true c.is_readable_axis.ensures (λ r. r.x)

pub returns-then-not-is_readable_axis-2 : goal.returns-then-not-is_readable_axis-2
returns-then-not-is_readable_axis-2 c =
    let k = c.args.key in
    let y : to_z w16 (of_z w16 k.y) ≡ k.y = search (rules, to_z-of_z) in
    one_axis c.args.voxel _ k k.y _ c.is_readable_axis-2.result (to_z-of_z w64 c.args.voxel c.ranges.voxel) y c.if-not-is_readable_axis-2.true c.is_readable_axis-2.ensures (λ r. r.y)

pub returns : goal.returns
returns c =
    let k = c.args.key in
    let x : to_z w16 (of_z w16 k.x) ≡ k.x = search (rules, to_z-of_z) in
    let y : to_z w16 (of_z w16 k.y) ≡ k.y = search (rules, to_z-of_z) in
    let z : to_z w16 (of_z w16 k.z) ≡ k.z = search (rules, to_z-of_z) in
    three_axes c.args.voxel _ k _ _ _ c.is_readable_axis.result c.is_readable_axis-2.result c.is_readable_axis-3.result (to_z-of_z w64 c.args.voxel c.ranges.voxel) x y z c.if-not-is_readable_axis.false c.if-not-is_readable_axis-2.false
    c.is_readable_axis.ensures c.is_readable_axis-2.ensures c.is_readable_axis-3.ensures
