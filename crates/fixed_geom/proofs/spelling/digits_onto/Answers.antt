use Rattle.fixed_geom.proofs.Decimals.{digit_more, digit_fits}
use Rattle.std.proofs.Common.{◌<◌, ◌+◌, ◌-◌, ◌*◌, ◌^◌, arith, get_or, add_assoc}
use Rattle.std.proofs.lemmas.Bool.{MatchBool-at_true}
use Rattle.std.proofs.lemmas.List.Sums.{fold_more}
use Rattle.std.proofs.lemmas.Grind.{common_steps}
use Rattle.fixed_geom.proofs.spelling.digits_onto.Goals as goal

pub overflow_mul-number : goal.overflow_mul-number
overflow_mul-number c =
    let e : 10 * c.loop-byte.number + 0 < 10 ^ 24 = digit_fits c.loop-byte.number (c.args.count + c.loop-byte.byte-index) 0 c.loop-byte.invariant.size (omega arith) (omega arith) in
    omega arith

pub overflow_add-number : goal.overflow_add-number
overflow_add-number c =
    let r = MatchBool-at_true _ _ c.if-not-is_ascii_digit.false c.is_ascii_digit.ensures.cases in
    let e : 10 * c.loop-byte.number + (get_or c.args.text.now c.loop-byte.byte-index 0 - 48) < 10 ^ 24 =
    digit_fits c.loop-byte.number (c.args.count + c.loop-byte.byte-index) (get_or c.args.text.now c.loop-byte.byte-index 0 - 48) c.loop-byte.invariant.size (omega arith) (omega arith) in
    omega arith

pub loop-byte-preserved : goal.loop-byte-preserved
loop-byte-preserved c =
    let r = MatchBool-at_true _ _ c.if-not-is_ascii_digit.false c.is_ascii_digit.ensures.cases in
    record {
      digits = grind (arith, common_steps);
      value = grind (arith, fold_more);
      size = rw (← add_assoc) (digit_more c.loop-byte.number (c.args.count + c.loop-byte.byte-index) (get_or c.args.text.now c.loop-byte.byte-index 0 - 48) c.loop-byte.invariant.size (omega arith));
    }
