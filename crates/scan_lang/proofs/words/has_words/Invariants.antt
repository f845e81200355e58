use Rattle.std.proofs.Common.{◌≡◌, ◌≤◌, ◌+◌, length}
use Rattle.scan_lang.specs.Spans.{words_from}
use Rattle.scan_lang.proofs.words.has_words.Given as goal

abbrev pub invariant-loop : goal.invariant-loop
invariant-loop l = record {
  count : length (words_from l.from l.line) ≡ l.counter + length (words_from l.next l.line);
  bound : l.next ≤ length l.line;
}
