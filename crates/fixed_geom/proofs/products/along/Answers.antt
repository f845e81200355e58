use Rattle.std.proofs.Common.{◌∙◌, ap, subst, sym}
use Rattle.std.specs.Prelude.{ℤ}
use Rattle.std.proofs.lemmas.Int.{to_z-of_z}
use mir.Syntax.{w64}
use Rattle.fixed_geom.specs.Division.{floor_div}
use Rattle.fixed_geom.specs.Poses.{unit}
use Rattle.fixed_geom.specs.Vectors.{IsWithin}
use Rattle.fixed_geom.proofs.Sizes.{along_bound, along_within}
use Rattle.fixed_geom.proofs.Wide.{cam_q30_axis_same}
use Rattle.fixed_geom.proofs.products.along.Goals as goal

pub returns-clause-value : goal.returns-clause-value
returns-clause-value c = to_z-of_z w64 c.micrometres.result (record { sfits = c.micrometres.type_inv }) ∙ c.micrometres.ensures.value ∙ ap (λ (z : ℤ). floor_div z unit) (cam_q30_axis_same c.along_q30.result c.along_q30.ensures.bound ∙ c.along_q30.ensures.value)

pub returns-clause-bound : goal.returns-clause-bound
returns-clause-bound c = subst (IsWithin along_bound) (sym (returns-clause-value c)) (along_within c.args.line c.args.offset c.requires.line c.requires.offset)
