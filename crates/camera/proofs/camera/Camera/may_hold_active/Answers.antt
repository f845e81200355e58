use Rattle.std.proofs.Common.{◌∙◌, ap, subst, sym}
use Rattle.fixed_geom.specs.declared.vector.Vec3.{Vec3}
use Rattle.fixed_geom.specs.Poses.{cam}
use Rattle.camera.specs.declared.camera.CameraFields.{CameraFields}
use Rattle.camera.specs.Cameras.{IsCamera, is_near_sphere}
use Rattle.camera.proofs.ChunkLemmas.{none_is_active}
use Rattle.camera.proofs.camera.Camera.may_hold_active.Goals as goal

pub returns-clause-value : goal.returns-clause-value
returns-clause-value c =
    let centre = c.cam.ensures.value ∙ ap (λ (p : Vec3). cam c.args.pose.now p) c.chunk_centre-centre.ensures.value in
    c.is_near_sphere.ensures ∙ ap (λ (k : CameraFields). is_near_sphere k c.cam.result) c.self.view_is ∙ ap (λ (p : Vec3). is_near_sphere c.args.self.now p) centre

pub returns-clause-none : goal.returns-clause-none
returns-clause-none c =
    let camera : IsCamera c.args.self.now = subst IsCamera c.self.view_is c.self.invariant in
    λ fails. none_is_active c.args.self.now c.args.pose.now c.args.chunk camera.ranges c.cam.ensures.pose (sym (returns-clause-value c) ∙ fails)
