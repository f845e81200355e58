use Rattle.std.proofs.Common.{◌∙◌, ap, subst, sym}
use Rattle.fixed_geom.specs.declared.vector.Vec3.{Vec3}
use Rattle.fixed_geom.specs.Poses.{cam}
use Rattle.camera.specs.declared.camera.CameraFields.{CameraFields}
use Rattle.camera.specs.Cameras.{IsCamera, is_in_sphere}
use Rattle.camera.proofs.Active.{inactive_meets_none}
use Rattle.camera.proofs.camera.Camera.active.Goals as goal

pub returns-clause-value : goal.returns-clause-value
returns-clause-value c =
    let centre = c.cam.ensures.value ∙ ap (λ (p : Vec3). cam c.args.pose.now p) c.block_centre-centre.ensures.value in
    c.is_in_sphere.ensures ∙ ap (λ (k : CameraFields). is_in_sphere k c.cam.result) c.self.view_is ∙ ap (λ (p : Vec3). is_in_sphere c.args.self.now p) centre

pub returns-clause-met : goal.returns-clause-met
returns-clause-met c =
    let camera : IsCamera c.args.self.now = subst IsCamera c.self.view_is c.self.invariant in
    λ fails. inactive_meets_none c.args.self.now c.args.pose.now c.args.key camera.ranges camera.sphere c.cam.ensures.pose.range (sym (returns-clause-value c) ∙ fails)
