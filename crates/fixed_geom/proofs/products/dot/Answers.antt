use Rattle.std.proofs.Common.{◌≡◌, ◌∙◌, refl, arith, rules, subst, sym}
use Rattle.std.specs.Prelude.{pos, ◌+ℤ◌, ◌*ℤ◌}
use Rattle.std.proofs.lemmas.Int.{to_z-of_z, ints}
use mir.Val.{to_z, of_z}
use mir.Syntax.{w128}
use Rattle.fixed_geom.specs.Vectors.{IsWithin}
use Rattle.fixed_geom.proofs.Wide.{sum_size}
use Rattle.fixed_geom.proofs.products.dot.Goals as goal

sum : (c : goal.After-plus-2) → to_z w128 (of_z w128 c.plus-2.result) ≡ (c.times.result +ℤ c.times-2.result) +ℤ c.times-3.result
sum c =
    let s0 : c.plus.result ≡ c.times.result +ℤ c.times-2.result = omega (arith, ints, c.plus.ensures.value, c.times.ensures.bound, c.times-2.ensures.bound) in
    let s1 : c.plus-2.result ≡ c.plus.result +ℤ c.times-3.result = omega (arith, ints, c.plus-2.ensures.value, c.times-3.ensures.bound) in
    let out : to_z w128 (of_z w128 c.plus-2.result) ≡ c.plus-2.result = omega (arith, ints, c.times.ensures.bound, c.times-2.ensures.bound, c.times-3.ensures.bound) in
    out ∙ s1 ∙ rw s0 refl

pub returns-clause-value : goal.returns-clause-value
returns-clause-value c =
    let p0 : c.times.result ≡ c.args.a.x *ℤ c.args.b.x = search (rules, to_z-of_z, c.times.ensures.value) in
    let p1 : c.times-2.result ≡ c.args.a.y *ℤ c.args.b.y = search (rules, to_z-of_z, c.times-2.ensures.value) in
    let p2 : c.times-3.result ≡ c.args.a.z *ℤ c.args.b.z = search (rules, to_z-of_z, c.times-3.ensures.value) in
    sum c ∙ rw (p0, p1, p2) refl

pub returns-clause-bound : goal.returns-clause-bound
returns-clause-bound c = subst (IsWithin (pos 39614081257132168796771975168)) (sym (sum c)) (sum_size c.times.result c.times-2.result c.times-3.result c.times.ensures.bound c.times-2.ensures.bound c.times-3.ensures.bound)
