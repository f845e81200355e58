use Rattle.std.proofs.Common.{◌≡◌, arith, subst, sym, rules}
use Rattle.std.specs.Prelude.{pos}
use Rattle.std.proofs.lemmas.Int.{to_z-of_z, ints}
use mir.Val.{to_z, of_z}
use mir.Syntax.{w64}
use Rattle.fixed_geom.specs.Vectors.{AreWithin}
use Rattle.fixed_geom.proofs.Wide.{same_vec}
use Rattle.camera.specs.Cameras.{ray_axis}
use Rattle.camera.proofs.RayLemmas.{ray_near}
use Rattle.camera.proofs.ray.ray.Goals as goal

pub returns-clause-value : goal.returns-clause-value
returns-clause-value c =
    let k = c.args.camera.now in
    let x : to_z w64 (of_z w64 c.ray_axis.result) ≡ ray_axis k.fx k.cx (pos c.args.u) c.args.z = search (rules, to_z-of_z, c.ray_axis.ensures) in
    let y : to_z w64 (of_z w64 c.ray_axis-2.result) ≡ ray_axis k.fy k.cy (pos c.args.v) c.args.z = search (rules, to_z-of_z, c.ray_axis-2.ensures) in
    same_vec _ _ _ _ _ _ x y (to_z-of_z w64 c.args.z c.ranges.z)

pub returns-clause-bound : goal.returns-clause-bound
returns-clause-bound c =
    let r = c.requires in
    let o = c.requires.camera in
    subst (AreWithin (pos 17000000)) (sym (returns-clause-value c))
    (ray_near c.args.camera.now (pos c.args.u) (pos c.args.v) c.args.z o.ranges o.reach (omega (arith, ints)) r.column (omega (arith, ints)) r.row r.front r.deep)
