use Rattle.std.proofs.Common.{◌≡◌, rules, subst, sym}
use Rattle.std.specs.Prelude.{ℤ, pos, ◌-ℤ◌, ◌≤ℤ◌}
use Rattle.std.proofs.lemmas.Int.{to_z-of_z}
use mir.Val.{to_z, of_z}
use mir.Syntax.{w64}
use Rattle.fixed_geom.specs.declared.vector.Vec3.{Vec3}
use Rattle.fixed_geom.specs.Vectors.{vec, dot}
use Rattle.scan_gen.specs.Scene.{square}
use Rattle.scan_gen.proofs.Outside.{outside}
use Rattle.scan_gen.proofs.Products.{same_vec}
use Rattle.scan_gen.proofs.Scenes.{view_is}
use Rattle.scan_gen.proofs.view.view_of.Goals as goal

pub returns-clause-value : goal.returns-clause-value
returns-clause-value c =
    let b = c.args.ball.centre in
    let x : to_z w64 (of_z w64 c.less.result) ≡ b.x -ℤ pos c.x_at-x.result = search (rules, to_z-of_z, c.less.ensures.value) in
    let y : to_z w64 (of_z w64 c.less-2.result) ≡ b.y -ℤ pos 0 = search (rules, to_z-of_z, c.less-2.ensures.value) in
    let z : to_z w64 (of_z w64 c.less-3.result) ≡ b.z -ℤ pos c.z_at-z.result = search (rules, to_z-of_z, c.less-3.ensures.value) in
    view_is c.args.ball c.args.k c.x_at-x.result c.z_at-z.result _ _ c.x_at-x.ensures.value c.z_at-z.ensures.value (same_vec _ _ _ _ _ _ x y z) (search (rules, to_z-of_z, c.minus.ensures.value, c.dot.ensures.value, c.square.ensures.value))

pub returns-clause-bounds : goal.returns-clause-bounds
returns-clause-bounds c =
    let b = c.args.ball in
    let o : Vec3 = vec (to_z w64 (of_z w64 c.less.result)) (to_z w64 (of_z w64 c.less-2.result)) (to_z w64 (of_z w64 c.less-3.result)) in
    let deep : to_z w64 (of_z w64 c.less-3.result) ≡ b.centre.z -ℤ pos c.z_at-z.result = search (rules, to_z-of_z, c.less-3.ensures.value) in
    let power : to_z w64 (of_z w64 c.minus.result) ≡ dot o o -ℤ square b.radius = search (rules, to_z-of_z, c.minus.ensures.value, c.dot.ensures.value, c.square.ensures.value) in
    record {
      x = c.x_at-x.ensures.bound;
      z = c.z_at-z.ensures.bound;
      offset = record { x = search (rules, to_z-of_z, c.less.ensures.bound); y = search (rules, to_z-of_z, c.less-2.ensures.bound); z = search (rules, to_z-of_z, c.less-3.ensures.bound) };
      power = search (rules, to_z-of_z, c.minus.ensures.bound);
      outside = subst (λ (p : ℤ). pos 0 ≤ℤ p) (sym power) (outside b c.z_at-z.result o c.requires c.z_at-z.ensures.bound deep);
    }
