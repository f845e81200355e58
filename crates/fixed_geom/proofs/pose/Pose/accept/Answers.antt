use Rattle.std.proofs.Common.{◌≡◌, ◌∙◌, subst, sym}
use Rattle.std.specs.Prelude.{Result, Ok, Err, ◌↔◌}
use Rattle.fixed_geom.specs.declared.pose.BadPose.{BadPose}
use Rattle.fixed_geom.specs.declared.pose.BadPose.TheVariants.{Range, NotRotation}
use Rattle.fixed_geom.specs.Poses.{Pose, HasPoseRange, IsNearRotation, of_rows}
use Rattle.fixed_geom.specs.PoseTest.{accepted, pose_of}
use Rattle.fixed_geom.proofs.PoseTests.{in_range, is_rotation, read_rows, range_read, rotation_read, accepted_pose, refused_rotation, range_refusal, rotation_refusal}
use Rattle.fixed_geom.proofs.pose.Pose.accept.Goals as goal

pub is_near_rotation-requires : goal.is_near_rotation-requires
is_near_rotation-requires c =
    let m = of_rows c.row-x.result c.row-y.result c.row-z.result c.args.rows.now.t in
    let r = in_range m (sym c.has_pose_range.ensures ∙ c.if-not-has_pose_range.false) in
    record { x = r.x; y = r.y; z = r.z }

pub returns-then-not-is_near_rotation-clause-value : goal.returns-then-not-is_near_rotation-clause-value
returns-then-not-is_near_rotation-clause-value c =
    let t = c.args.rows.now.t in
    sym (refused_rotation (pose_of c.args.rows.now)
    (range_read c.args.rows.now _ _ _ _ _ c.row-x.ensures c.row-y.ensures c.row-z.ensures c.has_pose_range.ensures c.if-not-has_pose_range.false)
    (rotation_read c.args.rows.now _ _ _ _ _ c.row-x.ensures c.row-y.ensures c.row-z.ensures (c.is_near_rotation.ensures t) c.if-not-is_near_rotation.true))

pub returns-then-not-is_near_rotation-clause-range : goal.returns-then-not-is_near_rotation-clause-range
returns-then-not-is_near_rotation-clause-range c =
    let m = pose_of c.args.rows.now in
    subst (λ (r : Result Pose BadPose). (r ≡ Err Range) ↔ (¬ HasPoseRange m)) (sym (returns-then-not-is_near_rotation-clause-value c)) (range_refusal m)

pub returns-then-not-is_near_rotation-clause-not_rotation : goal.returns-then-not-is_near_rotation-clause-not_rotation
returns-then-not-is_near_rotation-clause-not_rotation c =
    let m = pose_of c.args.rows.now in
    subst (λ (r : Result Pose BadPose). (r ≡ Err NotRotation) ↔ (HasPoseRange m × (¬ IsNearRotation m))) (sym (returns-then-not-is_near_rotation-clause-value c)) (rotation_refusal m)

pub invariant_of-result : goal.invariant_of-result
invariant_of-result c =
    let m = of_rows c.row-x.result c.row-y.result c.row-z.result c.args.rows.now.t in
    record {
      range = in_range m (sym c.has_pose_range.ensures ∙ c.if-not-has_pose_range.false);
      rotation = is_rotation m (sym (c.is_near_rotation.ensures c.args.rows.now.t) ∙ c.if-not-is_near_rotation.false);
    }

pub returns-clause-value : goal.returns-clause-value
returns-clause-value c =
    let p = c.args.rows.now in
    let whole : of_rows c.row-x.result c.row-y.result c.row-z.result p.t ≡ pose_of p = read_rows p c.row-x.result c.row-y.result c.row-z.result c.row-x.ensures c.row-y.ensures c.row-z.ensures in
    let is : accepted (pose_of p) ≡ Ok (pose_of p) = accepted_pose (pose_of p)
    (range_read p _ _ _ _ _ c.row-x.ensures c.row-y.ensures c.row-z.ensures c.has_pose_range.ensures c.if-not-has_pose_range.false)
    (rotation_read p _ _ _ _ _ c.row-x.ensures c.row-y.ensures c.row-z.ensures (c.is_near_rotation.ensures p.t) c.if-not-is_near_rotation.false) in
    cc

pub returns-clause-ok : goal.returns-clause-ok
returns-clause-ok c = invariant_of-result c

pub returns-clause-range : goal.returns-clause-range
returns-clause-range c =
    let m = pose_of c.args.rows.now in
    subst (λ (r : Result Pose BadPose). (r ≡ Err Range) ↔ (¬ HasPoseRange m)) (sym (returns-clause-value c)) (range_refusal m)

pub returns-clause-not_rotation : goal.returns-clause-not_rotation
returns-clause-not_rotation c =
    let m = pose_of c.args.rows.now in
    subst (λ (r : Result Pose BadPose). (r ≡ Err NotRotation) ↔ (HasPoseRange m × (¬ IsNearRotation m))) (sym (returns-clause-value c)) (rotation_refusal m)
