use Rattle.std.proofs.Common.{◌≡◌, ◌+◌, ◌/◌, ◌%◌, ◌^◌, rules}
use Rattle.std.specs.Prelude.{pos, ◌-ℤ◌}
use Rattle.std.proofs.lemmas.Int.{to_z-of_z}
use mir.Val.{to_z, of_z}
use mir.Syntax.{w64}
use Rattle.scan_gen.specs.Scene.{next_number}
use Rattle.scan_gen.proofs.Scenes.{ball_is}
use Rattle.scan_gen.proofs.ball.ball_of.Goals as goal

pub returns-clause-value : goal.returns-clause-value
returns-clause-value c =
    let x : to_z w64 (of_z w64 c.centred.result) ≡ pos (c.next_number-first.result / 2 ^ 33 % 800001) -ℤ pos 400000 = search (rules, to_z-of_z, c.centred.ensures.value, c.drawn.ensures.value) in
    let y : to_z w64 (of_z w64 c.centred-2.result) ≡ pos (c.next_number-second.result / 2 ^ 33 % 400001) -ℤ pos 200000 = search (rules, to_z-of_z, c.centred-2.ensures.value, c.drawn-2.ensures.value) in
    let z : to_z w64 (of_z w64 c.from-2.result) ≡ pos (1500000 + c.next_number-third.result / 2 ^ 33 % 400001) = search (rules, to_z-of_z, c.from-2.ensures, c.drawn-3.ensures.value) in
    let first : c.next_number-first.result ≡ next_number c.args.seed = search (rules, c.next_number-first.ensures, c.from.ensures) in
    let radius : 200000 + c.drawn-4.result ≡ 200000 + c.next_number-fourth.result / 2 ^ 33 % 200001 = search (rules, c.drawn-4.ensures.value) in
    ball_is c.args.seed c.next_number-first.result c.next_number-second.result c.next_number-third.result c.next_number-fourth.result _ _ _ _ first c.next_number-second.ensures c.next_number-third.ensures c.next_number-fourth.ensures x y z radius
