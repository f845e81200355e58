use Rattle.std.proofs.Common.{◌∙◌, sym}
use Rattle.fixed_geom.proofs.Decimals.{parts_with, parts_without}
use Rattle.fixed_geom.proofs.spelling.split_at_first.Goals as goal

pub returns-then-is_mark : goal.returns-then-is_mark
returns-then-is_mark c = parts_with c.args.mark c.args.other c.args.text.now c.loop-i.i c.loop-i-test.true (sym c.is_mark.ensures ∙ c.if-is_mark.true) c.loop-i.invariant

pub returns : goal.returns
returns c = parts_without c.args.mark c.args.other c.args.text.now c.loop-i.i c.loop-i-test.false c.loop-i.auto.i-end c.loop-i.invariant
