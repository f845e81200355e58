use Rattle.std.proofs.Common.{◌≡◌, ◌+◌, ◌-◌, rules}
use Rattle.std.specs.Prelude.{option_to_list, neg_ℤ}
use Rattle.std.proofs.lemmas.Int.{to_z-of_z}
use Rattle.scan_gen.specs.Scene.{plane_met, ball_met}
use Rattle.scan_gen.proofs.Depths.{depth_is}
use Rattle.scan_gen.proofs.depth.depth.Goals as goal

pub returns-clause-value : goal.returns-clause-value
returns-clause-value c =
    let right : option_to_list c.plane_met.result ≡ plane_met (1400000 - c.args.view.now.x) c.args.dx = search (rules, to_z-of_z, c.plane_met.ensures) in
    let left : option_to_list c.plane_met-2.result ≡ plane_met (1400000 + c.args.view.now.x) (neg_ℤ c.args.dx) = search (rules, to_z-of_z, c.plane_met-2.ensures) in
    let ball : option_to_list c.ball_met.result ≡ ball_met c.args.view.now c.args.dx c.args.dy = search (rules, to_z-of_z, c.ball_met.ensures) in
    depth_is c.args.view.now c.args.dx c.args.dy c.args.row c.nearer-right.result c.nearer-left.result c.nearer.result _ _ _ c.requires.row right c.nearer-right.ensures.value left c.nearer-left.ensures.value ball c.nearer.ensures.value
