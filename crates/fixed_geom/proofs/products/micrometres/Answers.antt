use Rattle.std.proofs.Common.{◌≡◌, ◌∙◌, ap, subst, sym}
use Rattle.std.specs.Prelude.{ℤ}
use Rattle.fixed_geom.specs.Division.{floor_div}
use Rattle.fixed_geom.specs.Poses.{unit}
use Rattle.fixed_geom.specs.Vectors.{IsWithin}
use Rattle.fixed_geom.proofs.Sizes.{micrometres_within, cam_bound}
use Rattle.fixed_geom.proofs.Wide.{cam_q30_axis_same, narrow_fits, narrow_is}
use Rattle.fixed_geom.proofs.products.micrometres.Goals as goal

quotient : (c : goal.After-div_euclid) → c.div_euclid.result ≡ floor_div c.args.q30 unit
quotient c = c.div_euclid.ensures ∙ ap (λ (z : ℤ). floor_div z unit) (cam_q30_axis_same c.args.q30 c.requires)

pub overflow_cast-result : goal.overflow_cast-result
overflow_cast-result c = narrow_fits c.div_euclid.result (floor_div c.args.q30 unit) (quotient c) (micrometres_within c.args.q30 c.requires)

pub returns-clause-value : goal.returns-clause-value
returns-clause-value c = narrow_is c.div_euclid.result (floor_div c.args.q30 unit) (quotient c) (micrometres_within c.args.q30 c.requires)

pub returns-clause-bound : goal.returns-clause-bound
returns-clause-bound c = subst (IsWithin cam_bound) (sym (returns-clause-value c)) (micrometres_within c.args.q30 c.requires)
