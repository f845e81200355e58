use Rattle.std.proofs.Common.{◌≤◌, ◌^◌, ◌+◌, length, arith}
use Rattle.fixed_geom.proofs.Decimals.{tens_rise}
use Rattle.fixed_geom.proofs.spelling.read_mantissa.Goals as goal

pub returns-clause-number : goal.returns-clause-number
returns-clause-number c =
    let few : length c.split_at_first.result.0.now + length c.unwrap_or-fraction.result.now ≤ 24 = omega arith in
    let rise : 10 ^ (length c.split_at_first.result.0.now + length c.unwrap_or-fraction.result.now) ≤ 10 ^ 24 = tens_rise _ 24 few in
    omega (arith, c.in_ok-number-2.ensures.size)
