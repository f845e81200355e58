use Rattle.std.proofs.Common.{refl}
use Rattle.scan_io.proofs.ReadingLemmas.{reads_turned_err}
use Rattle.depth_frame.specs.Errors.{pgm_errors}
use Rattle.depth_frame.specs.Pgm.{placed, pgm_of}
use Rattle.depth_frame.specs.declared.error.PgmError.TheVariants.{ReadFault}
use Rattle.depth_frame.proofs.PgmLemmas.{ends_placed}
use Rattle.depth_frame.proofs.pgm.read_pgm.Goals as goal

pub returns-in-Err-ReadFault : goal.returns-in-Err-ReadFault
unfolding pgm_of
returns-in-Err-ReadFault g c = record { pgm = reads_turned_err pgm_errors (placed c.args.feed.now.given) (λ f. f) ReadFault (ends_placed c.args.feed.now.given) refl (rw c.in-Err-ReadFault.field-0-is at c.in-Err-ReadFault.ensures) }
