-- What the program makes of its arguments, and what it writes to its error stream.
use Rattle.std.specs.Prelude.{◌≡◌, ℕ, List, [], ◌∷◌, ◌++◌, ◌⊎◌, Option, None, is_some, take, drop, map, not, Bool, true, false, Result, Ok, Err, String, string_bytes}
use Rattle.std.specs.Io.KnownBytes.{Appends}
use Rattle.std.specs.Vec.Iter.{into_iter_items}
use Rattle.std.specs.IoError.{error_kind}
use Rattle.std.specs.declared.alloc.Global.{Global}
use Rattle.std.specs.declared.io.Error.{Error}
use Rattle.std.specs.declared.io.ErrorKind.{ErrorKind}
use Rattle.std.specs.declared.io.ErrorKind.TheVariants.{OutOfMemory}
use Rattle.std.specs.declared.vec.IntoIter.{IntoIter}
use Rattle.scan_io.specs.Causes.{Rose}
use Rattle.scan_lang.specs.declared.error.BadScan.{BadScan as BadScanValue}
use Rattle.fusion_cli.specs.Status.{text_of}
use Rattle.command_words.specs.Words.{command_of}
use Rattle.fusion_cli.specs.declared.status.Status.{Status}
use Rattle.fusion_cli.specs.declared.status.Status.TheVariants.{Done, NoMemory, Usage, BadScan, ReadFault, WriteFault}
use Rattle.command_words.specs.declared.words.Command.{Command}

-- the arguments as the system gives them, the program's name first; one that is no UTF-8 is an error
abbrev pub Arguments : Type 0
Arguments = Result (IntoIter (String Global) Global) Error

-- whether the system was out of memory
abbrev pub is_out_of_memory : ErrorKind → Bool
is_out_of_memory OutOfMemory = true
is_out_of_memory _ = false

-- the command that the arguments after the program's name are; those that can't be read are none
abbrev pub command_in : Arguments → Option Command
command_in (Ok args) = command_of (map string_bytes (drop 1 (into_iter_items args)))
command_in (Err e) = None

-- the arguments are no command, for another cause than memory
abbrev pub is_usage : Arguments → Bool
is_usage (Ok args) = not (is_some (command_in (Ok args)))
is_usage (Err e) = not (is_out_of_memory (error_kind e))

-- the line of a status with its line feed; a run that is done has none
abbrev pub report_of : Status → List ℕ
report_of Done = []
report_of NoMemory = text_of NoMemory ++ 10 ∷ []
report_of Usage = text_of Usage ++ 10 ∷ []
report_of (BadScan why) = text_of (BadScan why) ++ 10 ∷ []
report_of ReadFault = text_of ReadFault ++ 10 ∷ []
report_of WriteFault = text_of WriteFault ++ 10 ∷ []

-- an error stream took the line of a status, or a front of it where a write failed; or nothing, for a refused scan whose
-- line the program has no memory for
pub record Reports (old new : Option (List ℕ)) (before now : ℕ) (status : Status) : Type 0 where
  pub front : (n : ℕ) × Appends old new (take n (report_of status))
  pub whole : ¬ Rose before now → Appends old new (report_of status) ⊎ (((why : BadScanValue) × (status ≡ BadScan why)) × Appends old new [])
