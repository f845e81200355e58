use Rattle.std.proofs.Common.{◌≡◌, ◌∙◌, refl, rules}
use Rattle.std.specs.Prelude.{◌+ℤ◌, ◌*ℤ◌}
use Rattle.std.proofs.lemmas.Int.{to_z-of_z}
use mir.Syntax.{w64}
use Rattle.scan_gen.proofs.view.dot.Goals as goal

pub returns-clause-value : goal.returns-clause-value
returns-clause-value c =
    let p0 : c.times.result ≡ c.args.a.x *ℤ c.args.b.x = search (rules, to_z-of_z, c.times.ensures.value) in
    let p1 : c.times-2.result ≡ c.args.a.y *ℤ c.args.b.y = search (rules, to_z-of_z, c.times-2.ensures.value) in
    let p2 : c.times-3.result ≡ c.args.a.z *ℤ c.args.b.z = search (rules, to_z-of_z, c.times-3.ensures.value) in
    let s : c.plus.result ≡ (c.times.result +ℤ c.times-2.result) +ℤ c.times-3.result = search (rules, to_z-of_z, c.plus.ensures.value) in
    to_z-of_z w64 c.plus.result (record { sfits = c.plus.type_inv }) ∙ s ∙ rw (p0, p1, p2) refl
