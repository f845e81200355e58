use Rattle.std.proofs.Common.{◌∙◌, ap, subst, sym}
use Rattle.std.specs.Prelude.{pos}
use Rattle.fixed_geom.specs.Poses.{HasPoseRange, Pose, world}
use Rattle.fixed_geom.specs.Vectors.{AreWithin}
use Rattle.fixed_geom.proofs.NearWorlds.{near_world_is}
use Rattle.fixed_geom.proofs.Wide.{same_vec}
use Rattle.fixed_geom.proofs.Worlds.{world_bound}
use Rattle.fixed_geom.proofs.pose.Pose.near_world.Goals as goal

pub returns-clause-value : goal.returns-clause-value
returns-clause-value c =
    let m = c.self.inside in
    let t = c.self.invariant.range.t in
    same_vec _ _ _ _ _ _
    (near_world_is _ m.t.x m.x c.args.c (record { sfits = c.world_axis.type_inv }) t.x c.world_axis.ensures)
    (near_world_is _ m.t.y m.y c.args.c (record { sfits = c.world_axis-2.type_inv }) t.y c.world_axis-2.ensures)
    (near_world_is _ m.t.z m.z c.args.c (record { sfits = c.world_axis-3.type_inv }) t.z c.world_axis-3.ensures)
    ∙ ap (λ (n : Pose). world n c.args.c) c.self.view_is

pub returns-clause-bound : goal.returns-clause-bound
returns-clause-bound c = subst (AreWithin (pos 151006226)) (sym (returns-clause-value c)) (world_bound c.args.self.now c.args.c (subst HasPoseRange c.self.view_is c.self.invariant.range) c.requires.c)
