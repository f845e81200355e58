use Rattle.std.proofs.Common.{◌∙◌, ap}
use Rattle.fixed_geom.specs.Poses.{Pose, column_x, column_y, column_z, cam_q30_axis}
use Rattle.fixed_geom.proofs.Wide.{cam_q30_axis_is}
use Rattle.fixed_geom.proofs.pose.Pose.cam_q30.Goals as goal

pub returns-clause-x : goal.returns-clause-x
returns-clause-x c =
    let m = c.self.inside in
    let r = c.self.invariant.range in
    cam_q30_axis_is _ m.x.x m.y.x m.z.x c.offset_from-offset.result m.t c.args.p r.x.x r.y.x r.z.x c.offset_from-offset.ensures.value c.along_q30.ensures.value c.along_q30.ensures.bound
    ∙ ap (λ (n : Pose). cam_q30_axis (column_x n) n.t c.args.p) c.self.view_is

pub returns-clause-y : goal.returns-clause-y
returns-clause-y c =
    let m = c.self.inside in
    let r = c.self.invariant.range in
    cam_q30_axis_is _ m.x.y m.y.y m.z.y c.offset_from-offset.result m.t c.args.p r.x.y r.y.y r.z.y c.offset_from-offset.ensures.value c.along_q30-2.ensures.value c.along_q30-2.ensures.bound
    ∙ ap (λ (n : Pose). cam_q30_axis (column_y n) n.t c.args.p) c.self.view_is

pub returns-clause-z : goal.returns-clause-z
returns-clause-z c =
    let m = c.self.inside in
    let r = c.self.invariant.range in
    cam_q30_axis_is _ m.x.z m.y.z m.z.z c.offset_from-offset.result m.t c.args.p r.x.z r.y.z r.z.z c.offset_from-offset.ensures.value c.along_q30-3.ensures.value c.along_q30-3.ensures.bound
    ∙ ap (λ (n : Pose). cam_q30_axis (column_z n) n.t c.args.p) c.self.view_is
