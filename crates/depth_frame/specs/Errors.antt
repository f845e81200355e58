-- The causes of a reader's errors.
use Rattle.scan_io.specs.Reading.{Cause, refused, failed, no_memory, Errors}
use Rattle.depth_frame.specs.declared.error.BadPgm.{BadPgm}
use Rattle.depth_frame.specs.declared.error.PgmError.{PgmError}
use Rattle.depth_frame.specs.declared.error.PgmError.TheVariants.{Bad, ReadFault, NoMemory}
use Rattle.depth_frame.specs.Pgm.{short}

abbrev pub pgm_cause : PgmError → Cause BadPgm
pgm_cause (Bad why) = refused why
pgm_cause ReadFault = failed
pgm_cause NoMemory = no_memory

abbrev pub pgm_errors : Errors PgmError BadPgm
pgm_errors = record { cause = pgm_cause; ended = short }
