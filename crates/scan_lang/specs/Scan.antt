-- What a whole byte text is as a scan: a configuration, entries one after another, and an end.
use Rattle.std.specs.Prelude.{ℕ, zero, suc, ◌+◌, ◌-◌, if◌then◌else◌, List, [], ◌∷◌, length, Option, None, Some, Result, Ok, Err}
use Rattle.scan_io.specs.Reading.{turned}
use Rattle.scan_io.specs.Steps.{◌>>=◌}
use Rattle.depth_frame.specs.Pgm.{pgm_of}
use Rattle.scan_lang.specs.declared.error.BadScan.{BadScan}
use Rattle.scan_lang.specs.declared.error.BadWhat.TheVariants as what
use Rattle.scan_lang.specs.declared.entry.Entry.{Entry}
use Rattle.scan_lang.specs.declared.entry.Entry.TheVariants.{Frame}
use Rattle.scan_lang.specs.declared.head.Head.{Head}
use Rattle.scan_lang.specs.declared.head.Head.TheVariants as heads
use Rattle.scan_lang.specs.Config.{Config, config_of}
use Rattle.scan_lang.specs.Entries.{is_end}
use Rattle.scan_lang.specs.Offsets.{offset_after, fault, short, bad_pgm}
use Rattle.scan_lang.specs.Lines.{config_line_limit, line_limit, first_line}
use Rattle.scan_lang.specs.Words.{head_of}

-- a scan has at most 1,000,000 lines, and the first is the configuration's; the bytes of a depth map are not lines
abbrev pub lines_after_config : ℕ
lines_after_config = 999999

-- ---- one step from a text: what stands at its front, and the bytes after it

-- the configuration, and the offset after its line
pub record Begun : Type 0 where
  pub config : Config
  pub offset : ℕ

-- the configuration that the first line is; a bad one is refused at the offset of the line
abbrev pub config_at_start : List ℕ → Result Config BadScan
config_at_start line = turned (λ why. fault (what.Config why) 0) (config_of line)

-- the configuration that a text begins with
unfoldable pub begin_of : List ℕ → Result (Begun × List ℕ) BadScan
begin_of text = do
  l ← first_line config_line_limit 0 text
  c ← config_at_start l.0
  Ok (record { config = c; offset = offset_after 0 (length l.0 + 1) }, l.1)

-- an entry, the number of lines that may still follow it, and the offset after it
pub record Read : Type 0 where
  pub entry : Entry
  pub left : ℕ
  pub offset : ℕ

-- the entry that a line begins, where the rest follows the line, and left more lines may; a frame goes on with its depth map
abbrev pub entry_with : (left offset : ℕ) → Head → (rest : List ℕ) → Result (Read × List ℕ) BadScan
entry_with left offset (heads.Frame rows) rest = turned bad_pgm (pgm_of offset rest) >>= λ p. Ok (record { entry = Frame rows p.0; left = left; offset = offset_after offset (length rest - length p.1) }, p.1)
entry_with left offset (heads.Whole entry) rest = Ok (record { entry = entry; left = left; offset = offset }, rest)

-- no line may follow: the text has one too many, or it ends before the record `end`
abbrev pub no_line : (offset : ℕ) → List ℕ → BadScan
no_line offset [] = short offset
no_line offset (b ∷ text) = fault what.Lines offset

-- by what a line begins: further where it has no words
abbrev pub entry_by : (left offset : ℕ) → (rest : List ℕ) → Result (Read × List ℕ) BadScan → Option Head → Result (Read × List ℕ) BadScan
entry_by left offset rest further None = further
entry_by left offset rest further (Some head) = entry_with left offset head rest

-- the first entry of the text at an offset, where left more lines may follow
unfoldable pub entry_at : (left offset : ℕ) → List ℕ → Result (Read × List ℕ) BadScan
entry_at zero offset text = Err (no_line offset text)
entry_at (suc n) offset text = do
  l ← first_line line_limit offset text
  h ← head_of offset l.0
  entry_by n (offset_after offset (length l.0 + 1)) l.1 (entry_at n (offset_after offset (length l.0 + 1)) l.1) h

-- ---- the whole text

pub data Ending : Type 0 where
  complete : Ending
  refused : BadScan → Ending

-- the records of a text, and how it ends
pub record Records : Type 0 where
  pub entries : List Entry
  pub ending : Ending

abbrev pub nothing_but : Ending → Records
nothing_but ending = record { entries = []; ending = ending }

abbrev pub with_entry : Entry → Records → Records
with_entry e r = record { entries = e ∷ r.entries; ending = r.ending }

-- the records from one on, where further gives those after it; `end` is the last
abbrev pub records_with : Entry → Records → Records
records_with e further = if is_end e then with_entry e (nothing_but complete) else with_entry e further

-- the records that further gives of what stands at the front of a text and of the bytes after it
abbrev pub records_from : {X : Type 0} → (further : X → List ℕ → Records) → Result (X × List ℕ) BadScan → Records
records_from further (Err why) = nothing_but (refused why)
records_from further (Ok (x, rest)) = further x rest

-- the records after a line, where further gives those of a text at an offset; a line without words is skipped
abbrev pub records_after : (left offset : ℕ) → (further : (offset : ℕ) → List ℕ → Records) → Result (Option Head) BadScan → (rest : List ℕ) → Records
records_after left offset further (Err why) rest = nothing_but (refused why)
records_after left offset further (Ok None) rest = further offset rest
records_after left offset further (Ok (Some head)) rest = records_from (λ r more. records_with r.entry (further r.offset more)) (entry_with left offset head rest)

-- the records of the text at an offset, line by line, where left more lines may follow
unfoldable pub records_of : (left offset : ℕ) → List ℕ → Records
records_of zero offset text = nothing_but (refused (no_line offset text))
records_of (suc n) offset text = records_from (λ line rest. records_after n (offset_after offset (length line + 1)) (records_of n) (head_of offset line) rest) (first_line line_limit offset text)

pub record Scan : Type 0 where
  pub config : Config
  pub records : Records

abbrev pub scan_from : Result (Begun × List ℕ) BadScan → Result Scan BadScan
scan_from (Err why) = Err why
scan_from (Ok (b, rest)) = Ok (record { config = b.config; records = records_of lines_after_config b.offset rest })

-- the scan that a whole text is
unfoldable pub scan_of : List ℕ → Result Scan BadScan
scan_of text = scan_from (begin_of text)
