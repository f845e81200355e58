use Rattle.std.proofs.Common.{◌≡◌, ◌∙◌, ap, subst, sym}
use Rattle.std.specs.Prelude.{ℤ, pos}
use mir.Val.{to_z, of_z}
use mir.Syntax.{w128}
use Rattle.fixed_geom.specs.declared.vector.Vec3.{Vec3}
use Rattle.fixed_geom.specs.Vectors.{AreWithin, IsWithin}
use Rattle.fixed_geom.specs.Poses.{column_x, column_y, column_z, entry_bound, cam_q30_axis, translation_bound}
use Rattle.fixed_geom.proofs.Dots.{columns_small}
use Rattle.fixed_geom.proofs.Sizes.{cam_within, cam_q30_axis_within, point_bound, cam_bound}
use Rattle.fixed_geom.proofs.Wide.{cam_is, cam_q30_axis_same, same_vec}
use Rattle.fixed_geom.proofs.pose.Pose.cam.Goals as goal

-- a scaled camera coordinate is within 2^72, as the machine reads it
near : (f : ℤ) (c t p : Vec3) → AreWithin entry_bound c → AreWithin translation_bound t → AreWithin point_bound p → f ≡ cam_q30_axis c t p → IsWithin (pos 4722366482869645213696) (to_z w128 (of_z w128 f))
near f c t p small far close e =
    let w = cam_q30_axis_within c t p small far close in
    subst (IsWithin (pos 4722366482869645213696)) (sym (ap (λ (z : ℤ). to_z w128 (of_z w128 z)) e ∙ cam_q30_axis_same (cam_q30_axis c t p) w)) w

pub micrometres-requires : goal.micrometres-requires
micrometres-requires c =
    let m = c.args.self.now in
    let r = c.cam_q30-cam_q30.ensures.pose.range in
    near c.cam_q30-cam_q30.result.x (column_x m) m.t c.args.p ((columns_small m r).0) r.t c.requires.p c.cam_q30-cam_q30.ensures.x

pub micrometres-requires-2 : goal.micrometres-requires-2
micrometres-requires-2 c =
    let m = c.args.self.now in
    let r = c.cam_q30-cam_q30.ensures.pose.range in
    near c.cam_q30-cam_q30.result.y (column_y m) m.t c.args.p ((columns_small m r).1) r.t c.requires.p c.cam_q30-cam_q30.ensures.y

pub micrometres-requires-3 : goal.micrometres-requires-3
micrometres-requires-3 c =
    let m = c.args.self.now in
    let r = c.cam_q30-cam_q30.ensures.pose.range in
    near c.cam_q30-cam_q30.result.z (column_z m) m.t c.args.p ((columns_small m r).2) r.t c.requires.p c.cam_q30-cam_q30.ensures.z

pub returns-clause-value : goal.returns-clause-value
returns-clause-value c =
    let m = c.args.self.now in
    let r = c.cam_q30-cam_q30.ensures.pose.range in
    let s = columns_small m r in
    let f = c.cam_q30-cam_q30.ensures in
    same_vec _ _ _ _ _ _
    (cam_is _ _ (column_x m) m.t c.args.p (record { sfits = c.micrometres.type_inv }) f.x (cam_q30_axis_within _ m.t c.args.p s.0 r.t c.requires.p) c.micrometres.ensures.value)
    (cam_is _ _ (column_y m) m.t c.args.p (record { sfits = c.micrometres-2.type_inv }) f.y (cam_q30_axis_within _ m.t c.args.p s.1 r.t c.requires.p) c.micrometres-2.ensures.value)
    (cam_is _ _ (column_z m) m.t c.args.p (record { sfits = c.micrometres-3.type_inv }) f.z (cam_q30_axis_within _ m.t c.args.p s.2 r.t c.requires.p) c.micrometres-3.ensures.value)

pub returns-clause-bound : goal.returns-clause-bound
returns-clause-bound c = subst (AreWithin cam_bound) (sym (returns-clause-value c)) (cam_within c.args.self.now c.args.p c.cam_q30-cam_q30.ensures.pose.range c.requires.p)
