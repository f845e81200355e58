use Rattle.std.proofs.Common.{◌≡◌, ◌∙◌, sym, subst}
use Rattle.std.specs.Prelude.{ℤ, pos, ◌≤ℤ◌}
use Rattle.std.proofs.lemmas.Int.{to_z-of_z}
use mir.Syntax.{w64}
use Rattle.fixed_geom.specs.Division.{floor_div}
use Rattle.camera.proofs.Readings.{fields_read}
use Rattle.ray_walk.proofs.PointLemmas.{read, read_difference, steps, steps_low, steps_high}
use Rattle.ray_walk.proofs.points.step_count.Goals as goal

is : (c : goal.After-floor_div) → read c.floor_div.result ≡ steps c.args.camera.now
is c =
    let k = c.args.camera.now in
    let r = c.requires in
    to_z-of_z w64 c.floor_div.result (record { sfits = c.floor_div.type_inv }) ∙ c.floor_div.ensures
    ∙ (λ i. floor_div (read_difference k.near k.far r.near r.far r.far_high i) ((fields_read k r).voxel i))

pub returns-clause-value : goal.returns-clause-value
returns-clause-value = is

pub returns-clause-low : goal.returns-clause-low
returns-clause-low c = subst (λ (z : ℤ). pos 0 ≤ℤ z) (sym (is c)) (steps_low c.args.camera.now c.requires)

pub returns-clause-high : goal.returns-clause-high
returns-clause-high c = subst (λ (z : ℤ). z ≤ℤ pos 15999) (sym (is c)) (steps_high c.args.camera.now c.requires)
