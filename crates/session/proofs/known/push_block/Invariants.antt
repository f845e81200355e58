use Rattle.std.proofs.Common.{◌≡◌, ◌++◌, ◌<◌, length}
use Rattle.session.specs.Fold.{known_in}
use Rattle.session.proofs.KnownLemmas.{left_in}
use Rattle.session.proofs.known.push_block.Given as goal

abbrev pub invariant-loop-i : goal.invariant-loop-i
invariant-loop-i l = record {
  left : l.known.items ++ left_in l.key l.block l.i ≡ l.initial.known.items ++ known_in l.key l.block;
  counted : 0 < l.i → length l.block ≡ 512;
}
