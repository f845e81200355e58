use Rattle.std.proofs.Common.{◌∙◌, refl}
use Rattle.std.specs.Prelude.{None, Some}
use Rattle.fuse_kernel.proofs.PixelLemmas.{axis_found, axis_read, front_read, project_is}
use Rattle.fuse_kernel.proofs.kernel.Kernel.pixel.Goals as goal

pub returns-in_err-u-clause-value : goal.returns-in_err-u-clause-value
returns-in_err-u-clause-value c =
    let s = c.args.self.now in
    let k = s.camera.now in
    let p = c.args.point in
    c.from_residual.ensures
    ∙ project_is k p None (axis_found k.height k.fy k.cy p.y p.z) (front_read p.z c.requires.point.z c.if-point-le0.false)
    (axis_read s.columns.size k.width s.columns.f s.columns.c k.fx k.cx p.x p.z None s.width s.fx s.cx c.requires.point.x c.requires.point.z c.in_err-u.ensures.value) refl

pub returns-in_err-v-clause-value : goal.returns-in_err-v-clause-value
returns-in_err-v-clause-value c =
    let s = c.args.self.now in
    let k = s.camera.now in
    let p = c.args.point in
    c.from_residual-in_err-v.ensures
    ∙ project_is k p (Some c.in_ok-u.u) None (front_read p.z c.requires.point.z c.if-point-le0.false)
    (axis_read s.columns.size k.width s.columns.f s.columns.c k.fx k.cx p.x p.z (Some c.in_ok-u.u) s.width s.fx s.cx c.requires.point.x c.requires.point.z c.in_ok-u.ensures.value)
    (axis_read s.rows.size k.height s.rows.f s.rows.c k.fy k.cy p.y p.z None s.height s.fy s.cy c.requires.point.y c.requires.point.z c.in_err-v.ensures.value)

pub returns-clause-value : goal.returns-clause-value
returns-clause-value c =
    let s = c.args.self.now in
    let k = s.camera.now in
    let p = c.args.point in
    project_is k p (Some c.in_ok-u.u) (Some c.in_ok-v.v) (front_read p.z c.requires.point.z c.if-point-le0.false)
    (axis_read s.columns.size k.width s.columns.f s.columns.c k.fx k.cx p.x p.z (Some c.in_ok-u.u) s.width s.fx s.cx c.requires.point.x c.requires.point.z c.in_ok-u.ensures.value)
    (axis_read s.rows.size k.height s.rows.f s.rows.c k.fy k.cy p.y p.z (Some c.in_ok-v.v) s.height s.fy s.cy c.requires.point.y c.requires.point.z c.in_ok-v.ensures.value)
