-- What a run answers and writes.
use Rattle.std.specs.Prelude.{◌≡◌, ◌≢◌, ◌⊎◌, ℕ, ◌≤◌, List, [], ◌++◌, Option, None, Some, IfSome, Result, Ok, Err, take, Bool, true, false, ⊤}
use Rattle.std.specs.Io.KnownBytes.{Appends}
use Rattle.fusion_cli.specs.declared.status.Status.{Status}
use Rattle.fusion_cli.specs.declared.status.Status.TheVariants.{Done, NoMemory, Usage, BadScan, ReadFault, WriteFault}
use Rattle.fusion_cli.specs.declared.run.Stop.{Stop}
use Rattle.fusion_cli.specs.declared.run.Stop.TheVariants as stops
use Rattle.command_words.specs.declared.words.Command.{Command}
use Rattle.command_words.specs.declared.words.Command.TheVariants.{Fuse, Demo}
use Rattle.scan_gen.specs.Generated.{generated_scan}
use Rattle.scan_io.specs.Causes.{Rose}
use Rattle.scan_io.specs.Coming.{Grows, LosesFront}
use Rattle.scan_io.specs.Reading.{StaysKnown}
use Rattle.scan_lang.specs.declared.error.ScanError.{ScanError}
use Rattle.scan_lang.specs.declared.error.ScanError.TheVariants as errors
use Rattle.scan_lang.specs.Offsets.{short}
use Rattle.scan_lang.specs.Scan.{Ending, complete, refused}
use Rattle.session.specs.Output.{output_of, all_bytes, first_bytes}

-- ---- the bytes written

-- the text ends too early
abbrev pub IsCutOff : Ending → Type 0
IsCutOff ending = (offset : ℕ) × (ending ≡ refused (short offset))

-- what the source has given of the text is a whole scan, with its line `end`
abbrev pub GivesEnd : (text : List ℕ) → (left : Option (List ℕ)) → Type 0
GivesEnd text left = StaysKnown left (λ rest. (given : List ℕ) × (text ≡ given ++ rest) × ((output_of given).ending ≡ complete))

-- what the source has given of the text ends inside an entry, and the sink took the replies to the entries before it, which are the first of the whole text
abbrev pub GivesPart : (text : List ℕ) → (left old new : Option (List ℕ)) → Type 0
GivesPart text left old new = StaysKnown left (λ rest. (given : List ℕ) × (text ≡ given ++ rest) × IsCutOff (output_of given).ending × ((n : ℕ) × ((output_of given).replies ≡ take n (output_of text).replies)) × Appends old new (all_bytes (output_of given)))

-- From a source that told this text, with left what it has left, a sink went from old to new, and this is the status.
abbrev pub Ran : (text : List ℕ) (left old new : Option (List ℕ)) → Status → Type 0
Ran text left old new Done = GivesEnd text left × ((output_of text).ending ≡ complete) × Appends old new (all_bytes (output_of text))
Ran text left old new (BadScan why) = ((output_of text).ending ≡ refused why) × Appends old new (all_bytes (output_of text))
Ran text left old new ReadFault = GivesPart text left old new
Ran text left old new WriteFault = (n : ℕ) × Appends old new (take n (all_bytes (output_of text)))
Ran text left old new NoMemory = (n : ℕ) × Appends old new (first_bytes n (output_of text))
-- words that are no command start no run
Ran text left old new Usage = ⊥

abbrev pub Answers : (before left old new : Option (List ℕ)) → Status → Type 0
Answers None left old new status = Unit {0}
Answers (Some text) left old new status = Ran text left old new status

-- The same from a text that is made: no read fails.
abbrev pub AnswersMade : (text : List ℕ) (old new : Option (List ℕ)) → Status → Type 0
AnswersMade text old new status = (status ≢ ReadFault) × ((rest : List ℕ) × Ran text (Some rest) old new status)

-- Where words are no command the sink takes nothing; the status says so, or is out of memory.
abbrev pub AnswersNone : (old new : Option (List ℕ)) → Status → Type 0
AnswersNone old new status = ((status ≡ Usage) ⊎ (status ≡ NoMemory)) × Appends old new []

-- A command's run: `fuse` is over what the source tells, `demo` over a generated scan.
abbrev pub Answered : Option Command → (before left old new : Option (List ℕ)) → Status → Type 0
Answered None before left old new status = AnswersNone old new status
Answered (Some (Fuse workers keep)) before left old new status = Answers before left old new status
Answered (Some (Demo seed frames workers)) before left old new status = AnswersMade (generated_scan seed frames) old new status

-- whether a command reads the source
abbrev pub reads_source : Option Command → Bool
reads_source None = false
reads_source (Some (Fuse workers keep)) = true
reads_source (Some (Demo seed frames workers)) = false

-- the text that a command is run over, where it is told
abbrev pub text_for : Command → (source : Option (List ℕ)) → Option (List ℕ)
text_for (Fuse workers keep) source = source
text_for (Demo seed frames workers) source = Some (generated_scan seed frames)

abbrev pub status_of : Ending → Status
status_of complete = Done
status_of (refused why) = BadScan why

-- from a source that told its bytes, the status and all the bytes of the output
abbrev pub IsWhole : (before old new : Option (List ℕ)) → Status → Type 0
IsWhole before old new status = IfSome before (λ text. (status ≡ status_of (output_of text).ending) × Appends old new (all_bytes (output_of text)))

-- ---- the counts of faults

-- a count never falls; it rose where it is of the fault that ended the run
pub record IsRisen (before now : ℕ) : Type 0 where
  pub later : before ≤ now
  pub rose : Rose before now

-- the source's count rose where the run ended with a read fault, and is as before where it ended otherwise
abbrev pub CountsReads : (before now : ℕ) → Status → Type 0
CountsReads before now Done = now ≡ before
CountsReads before now NoMemory = now ≡ before
CountsReads before now Usage = now ≡ before
CountsReads before now (BadScan why) = now ≡ before
CountsReads before now ReadFault = IsRisen before now
CountsReads before now WriteFault = now ≡ before

-- the sink's count rose where the run ended with a write fault, and is as before where it ended otherwise
abbrev pub CountsWrites : (before now : ℕ) → Status → Type 0
CountsWrites before now Done = now ≡ before
CountsWrites before now NoMemory = now ≡ before
CountsWrites before now Usage = now ≡ before
CountsWrites before now (BadScan why) = now ≡ before
CountsWrites before now ReadFault = now ≡ before
CountsWrites before now WriteFault = IsRisen before now

-- ---- the whole of a run

-- what a source or a sink tells, and how often it failed
pub record Told : Type 0 where
  pub bytes : Option (List ℕ)
  pub faults : ℕ

abbrev pub told : Option (List ℕ) → ℕ → Told
told bytes faults = record { bytes = bytes; faults = faults }

-- a run with this status, over a source and a sink
pub record IsRun (source left sink grown : Told) (status : Status) : Type 0 where
  pub answer : Answers source.bytes left.bytes sink.bytes grown.bytes status
  pub front : LosesFront source.bytes left.bytes
  pub grows : Grows sink.bytes grown.bytes
  pub reads : CountsReads source.faults left.faults status
  pub writes : CountsWrites sink.faults grown.faults status

-- a run with this status, over a text that is made, and a sink
pub record IsDemo (text : List ℕ) (sink grown : Told) (status : Status) : Type 0 where
  pub answer : AnswersMade text sink.bytes grown.bytes status
  pub grows : Grows sink.bytes grown.bytes
  pub writes : CountsWrites sink.faults grown.faults status

-- the status of a run
abbrev pub ended : Result ⊤ Stop → Status
ended (Ok done) = Done
ended (Err stops.NoMemory) = NoMemory
ended (Err (stops.BadScan why)) = BadScan why
ended (Err stops.ReadFault) = ReadFault
ended (Err stops.WriteFault) = WriteFault

abbrev pub stop_of : ScanError → Stop
stop_of (errors.Bad why) = stops.BadScan why
stop_of errors.ReadFault = stops.ReadFault
stop_of errors.NoMemory = stops.NoMemory
