use Rattle.std.proofs.Common.{◌<◌, length, arith, subst, sym}
use Rattle.std.specs.Prelude.{pos}
use Rattle.std.proofs.lemmas.Int.{to_z-of_z, ints}
use mir.Syntax.{w64}
use Rattle.fixed_geom.specs.Vectors.{AreWithin}
use Rattle.fixed_geom.proofs.Wide.{same_vec}
use Rattle.camera.proofs.RayLemmas.{ray_near}
use Rattle.camera.proofs.SlopeLemmas.{axis_is}
use Rattle.camera.proofs.slopes.Slopes.point.Goals as goal

pub returns-clause-value : goal.returns-clause-value
returns-clause-value c =
    let s = c.args.self.now in
    let k = s.fields in
    let column : c.args.u < length s.columns.items = omega (arith, ints, s.width, c.requires.column) in
    let row : c.args.v < length s.rows.items = omega (arith, ints, s.height, c.requires.row) in
    same_vec _ _ _ _ _ _
    (axis_is s.columns.items k.fx k.cx s.unit_x c.index.result.now c.args.z c.ray_axis.result c.args.u s.x s.in_columns column c.index.ensures c.ranges.z (record { sfits = c.ray_axis.type_inv }) c.ray_axis.ensures)
    (axis_is s.rows.items k.fy k.cy s.unit_y c.index-2.result.now c.args.z c.ray_axis-2.result c.args.v s.y s.in_rows row c.index-2.ensures c.ranges.z (record { sfits = c.ray_axis-2.type_inv }) c.ray_axis-2.ensures)
    (to_z-of_z w64 c.args.z c.ranges.z)

pub returns-clause-bound : goal.returns-clause-bound
returns-clause-bound c =
    let r = c.requires in
    let o = c.args.self.now.camera in
    subst (AreWithin (pos 17000000)) (sym (returns-clause-value c))
    (ray_near c.args.self.now.fields (pos c.args.u) (pos c.args.v) c.args.z o.ranges o.reach (omega (arith, ints)) r.column (omega (arith, ints)) r.row r.front r.deep)
