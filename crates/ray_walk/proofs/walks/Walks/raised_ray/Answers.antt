use Rattle.std.proofs.Common.{◌∙◌, ap, subst, sym}
use Rattle.std.specs.Prelude.{ℤ, pos, ◌-ℤ◌}
use Rattle.std.proofs.lemmas.Int.{to_z-of_z}
use mir.Syntax.{w64}
use Rattle.fixed_geom.specs.Vectors.{AreWithin, IsWithin}
use Rattle.fixed_geom.proofs.Wide.{same_vec}
use Rattle.camera.specs.Cameras.{ray_axis}
use Rattle.ray_walk.specs.Raising.{ray_raise}
use Rattle.ray_walk.proofs.WalkLemmas.{deep_read, depth_within, near_ray, raised_within}
use Rattle.ray_walk.proofs.walks.Walks.raised_ray.Goals as goal

pub coordinate-requires-clause-deep : goal.coordinate-requires-clause-deep
coordinate-requires-clause-deep c = deep_read c.args.self.now.fields c.args.z c.args.self.now.camera.ranges c.requires.front c.requires.deep

pub coordinate-requires-2-clause-deep : goal.coordinate-requires-2-clause-deep
coordinate-requires-2-clause-deep c = deep_read c.args.self.now.fields c.args.z c.args.self.now.camera.ranges c.requires.front c.requires.deep

pub coordinate-requires-clause-near : goal.coordinate-requires-clause-near
coordinate-requires-clause-near c =
    let w = c.args.self.now in
    let r = c.requires in
    subst (IsWithin (pos 17000000)) (sym (λ i. ray_axis (w.columns_focal i) (w.columns_centre i) (pos c.args.u) (to_z-of_z w64 c.args.z c.ranges.z i))) (near_ray w c.args.u c.args.v c.args.z r.column r.row r.front r.deep).x

pub coordinate-requires-2-clause-near : goal.coordinate-requires-2-clause-near
coordinate-requires-2-clause-near c =
    let w = c.args.self.now in
    let r = c.requires in
    subst (IsWithin (pos 17000000)) (sym (λ i. ray_axis (w.rows_focal i) (w.rows_centre i) (pos c.args.v) (to_z-of_z w64 c.args.z c.ranges.z i))) (near_ray w c.args.u c.args.v c.args.z r.column r.row r.front r.deep).y

pub returns-clause-bound : goal.returns-clause-bound
returns-clause-bound c =
    let w = c.args.self.now in
    let x = c.coordinate in
    let y = c.coordinate-2 in
    record {
      x = raised_within x.result x.ensures.low x.ensures.high;
      y = raised_within y.result y.ensures.low y.ensures.high;
      z = depth_within c.args.z c.requires.front (deep_read w.fields c.args.z w.camera.ranges c.requires.front c.requires.deep) c.ranges.z;
    }

pub returns-clause-value : goal.returns-clause-value
returns-clause-value c =
    let w = c.args.self.now in
    let z = to_z-of_z w64 c.args.z c.ranges.z in
    let x = c.coordinate in
    let y = c.coordinate-2 in
    let one = ap (λ (n : ℤ). n -ℤ ray_raise) (to_z-of_z w64 x.result (record { sfits = x.type_inv })) ∙ x.ensures.value ∙ (λ i. ray_axis (w.columns_focal i) (w.columns_centre i) (pos c.args.u) (z i)) in
    let two = ap (λ (n : ℤ). n -ℤ ray_raise) (to_z-of_z w64 y.result (record { sfits = y.type_inv })) ∙ y.ensures.value ∙ (λ i. ray_axis (w.rows_focal i) (w.rows_centre i) (pos c.args.v) (z i)) in
    same_vec _ _ _ _ _ _ one two z

pub returns-clause-near : goal.returns-clause-near
returns-clause-near c =
    let r = c.requires in
    subst (AreWithin (pos 17000000)) (sym (returns-clause-value c)) (near_ray c.args.self.now c.args.u c.args.v c.args.z r.column r.row r.front r.deep)
