use Rattle.std.proofs.Common.{◌∙◌, ap, subst, sym}
use Rattle.fixed_geom.specs.declared.vector.Vec3.{Vec3}
use Rattle.fixed_geom.specs.Poses.{cam}
use Rattle.camera.specs.declared.camera.CameraFields.{CameraFields}
use Rattle.camera.specs.Cameras.{IsCamera}
use Rattle.camera.specs.Visibility.{is_visible_at}
use Rattle.camera.proofs.Visible.{invisible_meets_none}
use Rattle.camera.proofs.camera.Camera.may_see.Goals as goal

pub returns-clause-value : goal.returns-clause-value
returns-clause-value c =
    let centre = c.cam.ensures.value ∙ ap (λ (p : Vec3). cam c.args.pose.now p) c.block_centre-centre.ensures.value in
    c.may_see.ensures ∙ ap (λ (k : CameraFields). is_visible_at k c.cam.result) c.self.view_is ∙ ap (λ (p : Vec3). is_visible_at c.args.self.now p) centre

pub returns-clause-invisible : goal.returns-clause-invisible
returns-clause-invisible c =
    let camera : IsCamera c.args.self.now = subst IsCamera c.self.view_is c.self.invariant in
    λ fails. invisible_meets_none c.args.self.now c.args.pose.now c.args.key camera.ranges c.cam.ensures.pose.range (sym (returns-clause-value c) ∙ fails)
