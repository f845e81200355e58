use Rattle.std.proofs.Common.{◌≡◌, ◌+◌}
use Rattle.scan_io.specs.Reading.{Came, stream}
use Rattle.scan_lang.specs.Scan.{entry_at}
use Rattle.scan_lang.proofs.reader.ScanReader.next.Given as goal

abbrev pub invariant-loop : goal.invariant-loop
invariant-loop g l = record {
  came : Came (entry_at l.fn.self.left l.fn.self.kept.given) (entry_at l.self-inside.left l.self-inside.feed.given) (stream l.fn.self.kept (g.S.Source.left l.fn.source) (g.S.Source.faults l.fn.source)) (stream l.self-inside.feed (g.S.Source.left l.source) (g.S.Source.faults l.source));
  count : l.self-inside.left + l.counter ≡ l.fn.self.left;
}
