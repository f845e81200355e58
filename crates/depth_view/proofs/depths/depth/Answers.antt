use Rattle.std.proofs.Common.{◌≡◌, ◌∙◌, ap, arith, sym}
use Rattle.std.specs.Prelude.{ℤ, Option, Some, None, pos, ◌≤ℤ◌, unwrap_or}
use Rattle.std.proofs.lemmas.Int.{ints, to_z-of_z}
use mir.Syntax.{w32}
use Rattle.camera.proofs.Readings.{same64}
use Rattle.depth_view.specs.Views.{no_depth}
use Rattle.depth_view.proofs.depths.depth.Goals as goal

pub narrow-requires-clause-low : goal.narrow-requires-clause-low
narrow-requires-clause-low c = (let near = (c.in-Some.ensures.range c.args.camera.now c.requires).0 in omega (arith, ints, near))

pub narrow-requires-clause-high : goal.narrow-requires-clause-high
narrow-requires-clause-high c = (let far = c.in-Some.ensures.range c.args.camera.now c.requires in let most = c.requires.ranges.far_high in omega (arith, ints, far.1, most))

pub returns-in-Some : goal.returns-in-Some
returns-in-Some c =
    let far = c.in-Some.ensures.range c.args.camera.now c.requires in
    let near = far.0 in
    let most = c.requires.ranges.far_high in
    to_z-of_z w32 c.narrow.result (record { sfits = c.narrow.type_inv }) ∙ c.narrow.ensures ∙ same64 c.in-Some.depth (record { low = omega (arith, ints, near); high = omega (arith, ints, far.1, most) })
    ∙ ap (λ (o : Option ℤ). unwrap_or o no_depth) (c.in-Some.ensures.value c.args.camera.now c.requires)

pub returns-in-None : goal.returns-in-None
returns-in-None c = ap (λ (o : Option ℤ). unwrap_or o no_depth) (c.in-None.ensures.value c.args.camera.now c.requires)
