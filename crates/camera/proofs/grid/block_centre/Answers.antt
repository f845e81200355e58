use Rattle.std.proofs.Common.{rules}
use mir.Val.{SFits}
use mir.Syntax.{w16}
use Rattle.camera.proofs.GridLemmas.{handed, handed_within}
use Rattle.camera.proofs.grid.block_centre.Goals as goal

pub returns-clause-value : goal.returns-clause-value
returns-clause-value c =
    let x : SFits w16 c.args.key.x = search rules in
    let y : SFits w16 c.args.key.y = search rules in
    let z : SFits w16 c.args.key.z = search rules in
    let ex = handed c.coordinate.result c.args.key.x _ c.args.size c.coordinate.ensures.bound x c.ranges.size c.coordinate.ensures.value in
    let ey = handed c.coordinate-2.result c.args.key.y _ c.args.size c.coordinate-2.ensures.bound y c.ranges.size c.coordinate-2.ensures.value in
    let ez = handed c.coordinate-3.result c.args.key.z _ c.args.size c.coordinate-3.ensures.bound z c.ranges.size c.coordinate-3.ensures.value in
    λ k. record { x = ex k; y = ey k; z = ez k }

pub returns-clause-bound : goal.returns-clause-bound
returns-clause-bound c = record { x = handed_within c.coordinate.result c.coordinate.ensures.bound; y = handed_within c.coordinate-2.result c.coordinate-2.ensures.bound; z = handed_within c.coordinate-3.result c.coordinate-3.ensures.bound }
