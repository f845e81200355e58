use Rattle.std.proofs.Common.{◌+◌, ◌≤◌}
use Rattle.scan_io.specs.Reading.{Stream, stream}
use Rattle.session.specs.Answers.{state_of}
use Rattle.fusion_cli.specs.Run.{Told, told}
use Rattle.fusion_cli.specs.UnderWay.{IsUnderWay}
use Rattle.fusion_cli.proofs.run.answer_all.Given as goal

abbrev pub invariant-loop : goal.invariant-loop
invariant-loop g l = record {
  run : (before : Stream) (empty : Told) → IsUnderWay l.fn.session.config before (stream l.fn.reader.kept (g.S.Source.left l.fn.source) (g.S.Source.faults l.fn.source)) l.fn.reader.left l.fn.reader.kept.given (state_of l.fn.session) empty (told (g.K.Sink.written l.fn.sink) (g.K.Sink.faults l.fn.sink))
      → IsUnderWay l.session.config before (stream l.reader.kept (g.S.Source.left l.source) (g.S.Source.faults l.source)) l.reader.left l.reader.kept.given (state_of l.session) empty (told (g.K.Sink.written l.sink) (g.K.Sink.faults l.sink));
  lines : l.reader.left + l.counter ≤ 999999;
}
