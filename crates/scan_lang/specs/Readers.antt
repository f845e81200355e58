-- What a reader of scans keeps, and the causes of its errors.
use Rattle.std.specs.Prelude.{ℕ, List, Option, Result, Ok, Err}
use Rattle.scan_io.specs.Coming.{Kept}
use Rattle.scan_io.specs.Reading.{Cause, refused, failed, no_memory, Errors, Stream, stream, unread}
use Rattle.scan_lang.specs.declared.error.BadScan.{BadScan}
use Rattle.scan_lang.specs.declared.error.ScanError.{ScanError}
use Rattle.scan_lang.specs.declared.error.ScanError.TheVariants as errors
use Rattle.scan_lang.specs.Config.{Config}
use Rattle.scan_lang.specs.Offsets.{short}

abbrev pub scan_cause : ScanError → Cause BadScan
scan_cause (errors.Bad why) = refused why
scan_cause errors.ReadFault = failed
scan_cause errors.NoMemory = no_memory

abbrev pub scan_errors : Errors ScanError BadScan
scan_errors = record { cause = scan_cause; ended = short }

-- a reader: what its feed keeps, and the number of lines that may still be read
pub record Reader : Type 0 where
  pub kept : Kept
  pub left : ℕ

-- what is to come after the configuration; after an error it is what the source has left
abbrev pub begun : Result (Config × Reader) ScanError → (left : Option (List ℕ)) → (faults : ℕ) → Stream
begun (Ok p) left faults = stream p.1.kept left faults
begun (Err e) left faults = unread left faults
