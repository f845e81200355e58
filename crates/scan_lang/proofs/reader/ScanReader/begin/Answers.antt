use Rattle.std.proofs.lemmas.Result.{err_from_is_err_and}
use Rattle.scan_lang.proofs.ReaderLemmas.{begin_lost}
use Rattle.scan_lang.proofs.reader.ScanReader.begin.Goals as goal

pub returns-in_err-config-clause-begin : goal.returns-in_err-config-clause-begin
returns-in_err-config-clause-begin g c =
    let p = err_from_is_err_and c.from_residual.result c.from_residual.ensures.1 in
    rw (p.1, p.2) (begin_lost _ c.in-Ok.feed c.read_begin.new.feed _ _ _ _ c.in-Ok.ensures c.in_err-config.ensures.begin)
