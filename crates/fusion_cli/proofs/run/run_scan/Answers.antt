use Rattle.std.proofs.Common.{refl, arith}
use Rattle.std.proofs.lemmas.Result.{err_from_is_err_and}
use Rattle.scan_io.proofs.ReadingLemmas.{loses_feed, loses_none}
use Rattle.scan_lang.specs.Config.{Config}
use Rattle.scan_lang.specs.Readers.{Reader}
use Rattle.scan_lang.specs.Scan.{Begun}
use Rattle.scan_io.specs.Reading.{unread}
use Rattle.fusion_cli.specs.Run.{told}
use Rattle.fusion_cli.proofs.RunLemmas.{exit_begin, exit_memory, starts}
use Rattle.fusion_cli.proofs.run.run_scan.Goals as goal

abbrev begun_by : Config × Reader → Begun
begun_by p = record { config = p.0; offset = p.1.kept.given }

pub returns-in_err-config : goal.returns-in_err-config
returns-in_err-config g c =
    let p = err_from_is_err_and c.from_residual.result c.from_residual.ensures.1 in
    rw (p.1, p.2) (exit_begin begun_by c.in_err-config.field-0.0 _ _ _ (loses_none _) c.in_err-config.ensures.begin)

pub returns-in_err-session : goal.returns-in_err-session
returns-in_err-session g c =
    let p = err_from_is_err_and c.from_residual-in_err-session.result c.from_residual-in_err-session.ensures.1 in
    let now = c.in_ok-config.reader.kept in
    rw (p.1, p.2) (exit_memory c.in_ok-config.config _ _ _ _ _ _ _ _ _ (loses_feed now _) refl (starts c.in_ok-config.config begun_by (c.in_ok-config.config, c.in_ok-config.reader) _ _ _ refl c.in_ok-config.ensures.begin))

pub answer_all-requires-clause-lines : goal.answer_all-requires-clause-lines
answer_all-requires-clause-lines g c = let n = c.in_ok-config.ensures.lines in omega (arith, n)

pub returns : goal.returns
returns g c =
    c.answer_all.ensures (unread (g.S.Source.left c.args.source.now) (g.S.Source.faults c.args.source.now)) (told (g.K.Sink.written c.args.sink.now) (g.K.Sink.faults c.args.sink.now))
    (rw (c.in_ok-session.ensures.config, c.in_ok-session.ensures.state, c.in_ok-config.ensures.lines) (starts c.in_ok-config.config begun_by (c.in_ok-config.config, c.in_ok-config.reader) _ _ _ refl c.in_ok-config.ensures.begin))
