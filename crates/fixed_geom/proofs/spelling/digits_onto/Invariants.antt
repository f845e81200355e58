use Rattle.std.proofs.Common.{◌≡◌, ◌<◌, ◌+◌, ◌^◌, take, true}
use Rattle.std.specs.List.{fold, list_all}
use Rattle.std.specs.Char.{is_ascii_digit}
use Rattle.fixed_geom.specs.Decimal.{with_digit}
use Rattle.fixed_geom.proofs.spelling.digits_onto.Given as goal

abbrev pub invariant-loop-byte : goal.invariant-loop-byte
invariant-loop-byte l = record {
  digits : list_all is_ascii_digit (take l.byte-index l.text) ≡ true;
  value : l.number ≡ fold with_digit l.start (take l.byte-index l.text);
  size : l.number < 10 ^ (l.count + l.byte-index);
}
