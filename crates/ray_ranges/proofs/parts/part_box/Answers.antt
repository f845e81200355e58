use Rattle.std.proofs.Common.{sym, subst}
use Rattle.std.specs.Prelude.{pos}
use Rattle.fixed_geom.specs.declared.vector.Vec3.{Vec3}
use Rattle.fixed_geom.specs.PoseTest.{pose_of}
use Rattle.camera.proofs.Readings.{fields_read}
use Rattle.ray_ranges.specs.Boxes.{HasNoPoint, IsNearby}
use Rattle.ray_ranges.proofs.PartLemmas.{none_read, read_part}
use Rattle.ray_ranges.proofs.parts.part_box.Goals as goal

pub returns-then-not-is_readable-clause-none : goal.returns-then-not-is_readable-clause-none
returns-then-not-is_readable-clause-none c =
    let p = c.args.projector.now in
    λ none. none_read p.fields (pose_of p.rows) c.args.key c.args.part _ c.is_readable.result p.camera p.pose (fields_read p.fields p.camera.ranges).voxel c.if-not-is_readable.true c.is_readable.ensures

pub cube_box-requires-clause-least : goal.cube_box-requires-clause-least
cube_box-requires-clause-least c =
    let p = c.args.projector.now in
    subst (IsNearby p.fields.voxel) (sym c.part_least.ensures) (read_part p.fields c.args.key c.args.part _ c.is_readable.result p.camera (fields_read p.fields p.camera.ranges).voxel c.if-not-is_readable.false c.is_readable.ensures)

pub returns-clause-none : goal.returns-clause-none
returns-clause-none c =
    let p = c.args.projector.now in
    λ none. subst (λ (l : Vec3). HasNoPoint p.fields (pose_of p.rows) l (pos 4)) c.part_least.ensures (c.cube_box.ensures.none none)
