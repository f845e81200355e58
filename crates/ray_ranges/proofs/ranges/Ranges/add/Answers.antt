use Rattle.std.proofs.Common.{◌∙◌, ap, sym}
use Rattle.std.specs.Prelude.{pos}
use Rattle.fixed_geom.specs.PoseTest.{pose_of}
use Rattle.ray_ranges.specs.Cubes.{part_least}
use Rattle.ray_ranges.specs.Tables.{Table}
use Rattle.ray_ranges.proofs.BoxLemmas.{covers_moved, none_moved}
use Rattle.ray_ranges.proofs.ranges.Ranges.add.Goals as goal

pub returns-in-Some-clause-covers : goal.returns-in-Some-clause-covers
returns-in-Some-clause-covers c =
    let p = c.self.inside.projector in
    let n = c.widen.new.self in
    let k = ap (λ (t : Table). t.camera) c.self.view_is ∙ sym c.widen.ensures.camera in
    let m = ap (λ (t : Table). t.pose) c.self.view_is ∙ sym c.widen.ensures.pose in
    λ u v j end at. c.widen.ensures.covers u v j (covers_moved p.fields n.camera (pose_of p.rows) n.pose (part_least c.args.key c.args.part) (pos 4) c.in-Some.found k m c.in-Some.ensures.covers u v j end at)

pub returns-in-None-clause-covers : goal.returns-in-None-clause-covers
returns-in-None-clause-covers c =
    let p = c.self.inside.projector in
    let n = c.args.self.now in
    let k = ap (λ (t : Table). t.camera) c.self.view_is in
    let m = ap (λ (t : Table). t.pose) c.self.view_is in
    λ u v j end at. absurd (none_moved p.fields n.camera (pose_of p.rows) n.pose (part_least c.args.key c.args.part) (pos 4) k m (c.part_box.ensures.none c.in-None.is) u v j end at)
