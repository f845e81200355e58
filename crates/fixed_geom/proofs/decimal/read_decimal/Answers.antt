use Rattle.std.proofs.Common.{rules, w32, w64, ◌∙◌, sym}
use Rattle.std.specs.Int.{w128}
use Rattle.std.proofs.lemmas.Int.{to_z-of_z}
use mir.Val.{SFits}
use Rattle.fixed_geom.specs.Decimal.{value_of}
use Rattle.fixed_geom.proofs.Decimals.{value_some, value_none}
use Rattle.fixed_geom.proofs.Spellings.{answer_is}
use Rattle.fixed_geom.proofs.decimal.read_decimal.Goals as goal

pub returns-in-Some-clause-value : goal.returns-in-Some-clause-value
unfolding value_of
returns-in-Some-clause-value c =
    let m : SFits w128 c.in-Some.decimal.mantissa = search rules in
    let p : SFits w32 c.in-Some.decimal.power = search rules in
    let s : SFits w64 c.args.scale = c.ranges.scale in
    let a : SFits w128 c.scaled.result = record { sfits = c.scaled.type_inv } in
    let q : SFits w128 c.nearest.result = record { sfits = c.nearest.type_inv } in
    let v = simp to_z-of_z at c.scaled.ensures.value in
    let n = rw (to_z-of_z _ _ a, to_z-of_z _ _ p, v) at c.nearest.ensures in
    let w = rw (to_z-of_z _ _ q) at c.within_range.ensures in
    value_some _ c.in-Some.decimal c.args.scale c.nearest.result c.within_range.result (sym c.parse.ensures.value ∙ c.in-Some.is) n w

pub returns-in-None-clause-value : goal.returns-in-None-clause-value
unfolding value_of
returns-in-None-clause-value c = value_none _ c.args.scale (sym c.parse.ensures.value ∙ c.in-None.is)

pub returns-in-Some-clause-answer : goal.returns-in-Some-clause-answer
returns-in-Some-clause-answer c = answer_is c.args.text.now c.args.scale c.within_range.result (returns-in-Some-clause-value c)

pub returns-in-None-clause-answer : goal.returns-in-None-clause-answer
returns-in-None-clause-answer c = answer_is c.args.text.now c.args.scale _ (returns-in-None-clause-value c)
