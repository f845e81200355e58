use Rattle.std.proofs.Common.{◌≡◌, ◌≤◌, rules, subst, sym}
use Rattle.std.specs.Prelude.{ℤ, pos, ◌≤ℤ◌, unsigned_abs, option_to_list}
use Rattle.std.proofs.lemmas.Int.{to_z-of_z}
use mir.Val.{to_z, of_z}
use mir.Syntax.{w64, w128}
use Rattle.fixed_geom.specs.Vectors.{dot}
use Rattle.scan_gen.specs.Scene.{ray, ray_square, root, discriminant_of, near_side}
use Rattle.scan_gen.proofs.Depths.{ball_met_is}
use Rattle.scan_gen.proofs.Outside.{root_before}
use Rattle.scan_gen.proofs.depth.ball_met.Goals as goal

pub returns : goal.returns
returns c =
    let w = c.args.view.now in
    let squared : c.squared-squared.result ≡ ray_square c.args.dx c.args.dy = search (rules, to_z-of_z, c.squared-squared.ensures.value) in
    let along : c.dot-along.result ≡ dot (ray c.args.dx c.args.dy) w.offset = search (rules, to_z-of_z, c.dot-along.ensures.value) in
    let d : c.discriminant.result ≡ discriminant_of c.squared-squared.result c.dot-along.result w.power = search (rules, to_z-of_z, c.discriminant.ensures.value) in
    let near : option_to_list c.near_side.result ≡ near_side c.squared-squared.result c.dot-along.result c.discriminant.result = search (rules, to_z-of_z, c.near_side.ensures) in
    ball_met_is w c.args.dx c.args.dy c.dot-along.result c.discriminant.result c.squared-squared.result _ squared along d near

pub near_side-requires-clause-outside : goal.near_side-requires-clause-outside
near_side-requires-clause-outside c =
    let w = c.args.view.now in
    let along = to_z w64 (of_z w64 c.dot-along.result) in
    let d : to_z w128 (of_z w128 c.discriminant.result) ≡ discriminant_of c.squared-squared.result along w.power = search (rules, to_z-of_z, c.discriminant.ensures.value) in
    subst (λ (z : ℤ). pos 0 ≤ℤ z → root (unsigned_abs z) ≤ unsigned_abs along) (sym d) (root_before c.squared-squared.result along w.power c.requires.bounds.outside)
