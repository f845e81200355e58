use Rattle.std.proofs.lemmas.Result.{err_from_is_err_and}
use Rattle.scan_io.proofs.ReadingLemmas.{byte_given, byte_end, byte_fault}
use Rattle.std.proofs.Common.{refl}
use Rattle.depth_frame.specs.Pgm.{short}
use Rattle.depth_frame.specs.Errors.{pgm_errors}
use Rattle.depth_frame.specs.declared.error.PgmError.TheVariants.{Bad, ReadFault}
use Rattle.depth_frame.proofs.header.next_byte.Goals as goal

pub returns-in_err-byte : goal.returns-in_err-byte
returns-in_err-byte g c =
    let p = err_from_is_err_and c.from_residual.result c.from_residual.ensures.1 in
    rw (p.1, p.2) (byte_fault pgm_errors c.args.at ReadFault _ _ _ c.next.new.self refl c.in_err-byte.ensures.gives c.in_err-byte.ensures.kept c.in_err-byte.ensures.front c.in_err-byte.ensures.cause)

pub returns-in-Some : goal.returns-in-Some
returns-in-Some g c = byte_given pgm_errors c.args.at c.in-Some.byte _ _ (rw c.in-Some.is at c.in_ok-byte.ensures.given) (rw c.in-Some.is at c.in_ok-byte.ensures.gives) c.in_ok-byte.ensures.front c.in_ok-byte.ensures.cause.kept

pub returns-in-None : goal.returns-in-None
returns-in-None g c = byte_end pgm_errors c.args.at (Bad (short c.args.at)) _ _ refl (rw c.in-None.is at c.in_ok-byte.ensures.gives).0 c.in_ok-byte.ensures.front c.in_ok-byte.ensures.cause.kept
