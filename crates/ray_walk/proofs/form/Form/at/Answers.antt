use Rattle.std.proofs.Common.{◌∙◌, ap, arith}
use Rattle.std.specs.Prelude.{ℤ, pos, ◌+ℤ◌}
use Rattle.std.proofs.lemmas.Int.{ints, to_z-of_z}
use mir.Syntax.{w64}
use Rattle.fixed_geom.specs.Division.{floor_div}
use Rattle.fixed_geom.specs.Poses.{unit}
use Rattle.fixed_geom.proofs.RowProducts.{closer}
use Rattle.ray_walk.proofs.FormSums.{sum_fits, sum_read}
use Rattle.ray_walk.proofs.form.Form.at.Goals as goal

pub dot-requires-clause-p : goal.dot-requires-clause-p
dot-requires-clause-p c = closer (pos 34000001) c.args.p (omega (arith, ints)) c.requires

pub overflow_add-self : goal.overflow_add-self
overflow_add-self c = sum_fits c.args.self.now.start c.dot.result c.args.self.now.start_bound c.dot.ensures.bound

pub returns : goal.returns
returns c =
    let a = c.args.self.now in
    let d = c.dot.ensures in
    to_z-of_z w64 c.micrometres.result (record { sfits = c.micrometres.type_inv }) ∙ c.micrometres.ensures.value
    ∙ ap (λ (n : ℤ). floor_div n unit) (sum_read a.start c.dot.result a.start_bound d.bound ∙ ap (λ (n : ℤ). a.start +ℤ n) d.value)
