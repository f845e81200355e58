use Rattle.std.proofs.Common.{◌≡◌, ◌∙◌, sym, subst, arith}
use Rattle.std.specs.Prelude.{ℤ, pos, ◌-ℤ◌, ◌*ℤ◌, ◌≤ℤ◌}
use Rattle.std.proofs.lemmas.Int.{ints, to_z-of_z}
use mir.Syntax.{w64}
use Rattle.fixed_geom.specs.Division.{floor_div}
use Rattle.ray_walk.proofs.PointLemmas.{read}
use Rattle.raycaster.proofs.SurfaceLemmas.{offset_high, offset_low, product_is, read_fall}
use Rattle.raycaster.proofs.surface.offset.Goals as goal

is : (c : goal.After-from) → read c.from.result ≡ floor_div (c.args.size *ℤ c.args.f) (c.args.f -ℤ c.args.g)
is c =
    let r = c.requires in
    let size = c.whole.ensures ∙ to_z-of_z w64 c.args.size c.ranges.size in
    let f = c.whole-2.ensures ∙ to_z-of_z w64 c.args.f c.ranges.f in
    let product = product_is c.whole.result c.whole-2.result c.times.result c.args.size c.args.f c.times.ensures size f in
    let fall = c.whole-3.ensures ∙ read_fall c.args.f c.args.g r.front r.front_high r.behind r.behind_low in
    to_z-of_z w64 c.from.result (record { sfits = c.from.type_inv }) ∙ c.from.ensures ∙ c.divided.ensures ∙ (λ i. floor_div (product i) (fall i))

pub returns-clause-value : goal.returns-clause-value
returns-clause-value = is

pub returns-clause-low : goal.returns-clause-low
returns-clause-low c = subst (λ (z : ℤ). pos 0 ≤ℤ z) (sym (is c)) (offset_low c.args.size c.args.f c.args.g (omega (arith, ints, c.requires.size)) c.requires.front c.requires.behind)

pub returns-clause-high : goal.returns-clause-high
returns-clause-high c = subst (λ (z : ℤ). z ≤ℤ c.args.size) (sym (is c)) (offset_high c.args.size c.args.f c.args.g (omega (arith, ints, c.requires.size)) c.requires.front c.requires.behind)
