use Rattle.std.proofs.Common.{◌≡◌, ◌≤◌, ◌+◌, length, take}
use Rattle.scan_lang.specs.Words.{numbers_from}
use Rattle.scan_lang.specs.Spans.{words_from}
use Rattle.scan_lang.proofs.WordLemmas.{numbers_onto}
use Rattle.scan_lang.proofs.words.read_numbers.Given as goal

abbrev pub invariant-loop-index : goal.invariant-loop-index
invariant-loop-index l = record {
  further : numbers_from l.offset 0 (words_from l.from l.line) ≡ numbers_onto (take l.index l.numbers) (numbers_from l.offset l.index (words_from l.next l.line));
  count : l.index + length (words_from l.next l.line) ≡ 12;
  bound : l.next ≤ length l.line;
  long : length l.numbers ≡ 12;
}
