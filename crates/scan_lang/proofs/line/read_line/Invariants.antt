use Rattle.std.proofs.Common.{◌≡◌, length}
use Rattle.scan_io.specs.Reading.{Came, stream}
use Rattle.scan_lang.specs.Offsets.{offset_after}
use Rattle.scan_lang.specs.Lines.{first_line}
use Rattle.scan_lang.proofs.LineLemmas.{IsPlain, line_further}
use Rattle.scan_lang.proofs.line.read_line.Given as goal

abbrev pub invariant-loop : goal.invariant-loop
invariant-loop g l = record {
  came : Came (first_line l.limit l.initial.feed.given) (line_further l.limit l.initial.feed.given l.line.items) (stream l.initial.feed (g.S.Source.left l.initial.source) (g.S.Source.faults l.initial.source)) (stream l.feed (g.S.Source.left l.source) (g.S.Source.faults l.source));
  plain : IsPlain l.line.items;
  size : length l.line.items ≡ l.counter;
  offset : l.feed.given ≡ offset_after l.initial.feed.given (length l.line.items);
}
