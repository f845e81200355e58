use Rattle.std.proofs.Common.{◌∙◌, ap}
use Rattle.fixed_geom.specs.Poses.{Pose, world}
use Rattle.fixed_geom.proofs.Wide.{same_vec, world_is}
use Rattle.fixed_geom.proofs.pose.Pose.world.Goals as goal

pub returns-clause-value : goal.returns-clause-value
returns-clause-value c =
    let m = c.self.inside in
    let t = c.self.invariant.range.t in
    same_vec _ _ _ _ _ _
    (world_is _ m.t.x _ _ t.x c.along.ensures.bound c.along.ensures.value c.moved.ensures.value)
    (world_is _ m.t.y _ _ t.y c.along-2.ensures.bound c.along-2.ensures.value c.moved-2.ensures.value)
    (world_is _ m.t.z _ _ t.z c.along-3.ensures.bound c.along-3.ensures.value c.moved-3.ensures.value)
    ∙ ap (λ (n : Pose). world n c.args.c) c.self.view_is
