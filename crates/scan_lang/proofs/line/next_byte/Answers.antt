use Rattle.std.proofs.Common.{refl}
use Rattle.std.proofs.lemmas.Result.{err_from_is_err_and}
use Rattle.scan_io.proofs.ReadingLemmas.{byte_given, byte_fault}
use Rattle.scan_lang.specs.Readers.{scan_errors}
use Rattle.scan_lang.specs.declared.error.ScanError.TheVariants.{ReadFault}
use Rattle.scan_lang.proofs.line.next_byte.Goals as goal

pub returns-in_err-byte-clause-byte : goal.returns-in_err-byte-clause-byte
returns-in_err-byte-clause-byte g c =
    let p = err_from_is_err_and c.from_residual.result c.from_residual.ensures.1 in
    rw (p.1, p.2) (byte_fault scan_errors c.args.feed.now.given ReadFault _ _ _ c.next.new.self refl c.in_err-byte.ensures.gives c.in_err-byte.ensures.kept c.in_err-byte.ensures.front c.in_err-byte.ensures.cause)

pub returns-in-Some-clause-byte : goal.returns-in-Some-clause-byte
returns-in-Some-clause-byte g c =
    byte_given scan_errors c.args.feed.now.given c.in-Some.byte _ _ (rw c.in-Some.is at c.in_ok-byte.ensures.given) (rw c.in-Some.is at c.in_ok-byte.ensures.gives) c.in_ok-byte.ensures.front c.in_ok-byte.ensures.cause.kept
