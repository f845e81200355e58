use Rattle.std.proofs.Common.{◌≡◌, ◌∙◌, ap, arith}
use Rattle.std.specs.Prelude.{ℤ, pos, ◌+ℤ◌}
use Rattle.std.proofs.lemmas.Int.{ints, to_z-of_z}
use mir.Syntax.{w64}
use Rattle.fixed_geom.specs.Division.{floor_div}
use Rattle.fixed_geom.specs.Poses.{unit}
use Rattle.fixed_geom.specs.Vectors.{dot}
use Rattle.fixed_geom.proofs.NearWorlds.{moved_fits, moved_is}
use Rattle.fixed_geom.proofs.RowProducts.{closer}
use Rattle.fixed_geom.proofs.near.world_axis.Goals as goal

pub dot-requires-clause-p : goal.dot-requires-clause-p
dot-requires-clause-p c = closer (pos 17000000) c.args.c (omega (arith, ints)) c.requires.c

pub overflow_add-result : goal.overflow_add-result
overflow_add-result c = moved_fits c.args.t c.micrometres.result c.requires.t c.micrometres.ensures.bound

pub returns : goal.returns
returns c =
    let d = c.dot in
    let q = c.micrometres in
    let is : q.result ≡ floor_div (dot c.args.row c.args.c) unit = q.ensures.value ∙ ap (λ (z : ℤ). floor_div z unit) (to_z-of_z w64 d.result (record { sfits = d.type_inv }) ∙ d.ensures.value) in
    moved_is c.args.t q.result c.requires.t q.ensures.bound ∙ ap (λ (z : ℤ). c.args.t +ℤ z) is
