use Rattle.std.proofs.Common.{◌≡◌, ◌-◌, false, cond, ◌∙◌, ap, sym, subst}
use Rattle.std.specs.Prelude.{ℤ, pos, ◌≤ℤ◌, Some, None}
use Rattle.std.proofs.lemmas.Int.{to_z-of_z}
use mir.Syntax.{w64}
use Rattle.ray_walk.specs.Points.{point_depth}
use Rattle.ray_walk.proofs.PointLemmas.{depth_front, read}
use Rattle.raycaster.specs.Tries.{is_low}
use Rattle.raycaster.specs.Views.{scene_of_view}
use Rattle.raycaster.specs.Walk.{falls, hit_sample, point_value}
use Rattle.raycaster.proofs.TryLemmas.{not_low}
use Rattle.raycaster.proofs.view.View.try_point.Goals as goal

depth : (c : goal.After-point_depth-z) → read c.point_depth-z.result ≡ point_depth c.args.self.now.walks.fields (c.args.j - 1)
depth c = to_z-of_z w64 c.point_depth-z.result (record { sfits = c.point_depth-z.type_inv }) ∙ c.point_depth-z.ensures.value

pub returns-then-not-is_low-clause-sample : goal.returns-then-not-is_low-clause-sample
returns-then-not-is_low-clause-sample c =
    let k = c.args.self.now.walks.fields in
    let s = scene_of_view c.args.self.now in
    let front = point_value s c.args.u c.args.v (c.args.j - 1) in
    let behind = point_value s c.args.u c.args.v c.args.j in
    let out : is_low behind ≡ false = ap is_low (sym c.read-behind.ensures.value) ∙ sym c.is_low.ensures ∙ c.if-not-is_low.true in
    sym (ap (λ b. cond b (Some (hit_sample k (point_depth k (c.args.j - 1)) front behind)) None) (not_low front behind out))

pub hit_sample-requires-clause-near : goal.hit_sample-requires-clause-near
hit_sample-requires-clause-near c = subst (λ (z : ℤ). pos 1 ≤ℤ z) (sym (depth c)) (depth_front c.args.self.now.walks.fields (c.args.j - 1) c.args.self.now.walks.camera.ranges)

pub returns-clause-sample : goal.returns-clause-sample
returns-clause-sample c =
    let k = c.args.self.now.walks.fields in
    let front = c.read-front.ensures.value in
    let behind = c.read-behind.ensures.value in
    let z = to_z-of_z w64 c.point_depth-z.result (record { sfits = c.point_depth-z.type_inv }) ∙ c.point_depth-z.ensures.value in
    c.hit_sample.ensures ∙ (λ i. cond (falls (front i) (behind i)) (Some (hit_sample k (z i) (front i) (behind i))) None)
