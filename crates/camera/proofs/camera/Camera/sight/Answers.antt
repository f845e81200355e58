use Rattle.std.proofs.Common.{◌∙◌, ap}
use Rattle.fixed_geom.specs.declared.vector.Vec3.{Vec3}
use Rattle.fixed_geom.specs.Poses.{cam}
use Rattle.camera.specs.declared.camera.CameraFields.{CameraFields}
use Rattle.camera.specs.Cameras.{is_in_sphere}
use Rattle.camera.specs.Visibility.{is_visible_at}
use Rattle.camera.proofs.camera.Camera.sight.Goals as goal

pub returns-clause-active : goal.returns-clause-active
returns-clause-active c =
    let centre = c.cam-centre.ensures.value ∙ ap (λ (p : Vec3). cam c.args.pose.now p) c.block_centre.ensures.value in
    c.is_in_sphere.ensures ∙ ap (λ (k : CameraFields). is_in_sphere k c.cam-centre.result) c.self.view_is ∙ ap (λ (p : Vec3). is_in_sphere c.args.self.now p) centre

pub returns-clause-visible : goal.returns-clause-visible
returns-clause-visible c =
    let centre = c.cam-centre.ensures.value ∙ ap (λ (p : Vec3). cam c.args.pose.now p) c.block_centre.ensures.value in
    c.may_see.ensures ∙ ap (λ (k : CameraFields). is_visible_at k c.cam-centre.result) c.self.view_is ∙ ap (λ (p : Vec3). is_visible_at c.args.self.now p) centre
