use Rattle.std.proofs.lemmas.Result.{err_from_is_err_and}
use Rattle.scan_io.proofs.ReadingLemmas.{came_none, came_step, came_err}
use Rattle.scan_lang.specs.Scan.{begin_of}
use Rattle.scan_lang.proofs.ReaderLemmas.{config_after, begin_split, begun_with}
use Rattle.scan_lang.proofs.reader.read_begin.Goals as goal

pub returns-in_err-line-clause-begin : goal.returns-in_err-line-clause-begin
returns-in_err-line-clause-begin g c =
    let p = err_from_is_err_and c.from_residual.result c.from_residual.ensures.1 in
    rw (p.1, p.2) (came_err _ config_after (came_none begin_of _) c.in_err-line.ensures.line (begin_split c.args.feed.now.given c.requires))

pub returns-clause-begin : goal.returns-clause-begin
returns-clause-begin g c =
    begun_with c.in_ok-line.line.items c.read_line.new.feed.given c.first_config.result _ _
    (came_step config_after (came_none begin_of _) c.in_ok-line.ensures.line (begin_split c.args.feed.now.given c.requires))
    (rw c.requires at c.in_ok-line.ensures.offset) (rw c.deref.ensures.value at c.first_config.ensures.value)
