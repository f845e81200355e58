-- What is proved of every text that is read as a scan.
use Rattle.std.specs.Prelude.{◌≡◌, ◌≢◌, ◌<◌, ℕ, List, ◌++◌, length, Result, Ok, Err}
use Rattle.scan_io.specs.Reading.{saturated}
use Rattle.scan_lang.specs.declared.error.BadScan.{BadScan}
use Rattle.scan_lang.specs.declared.error.BadWhat.TheVariants.{Short}
use Rattle.scan_lang.specs.declared.entry.Entry.{Entry}
use Rattle.scan_lang.specs.Scan.{Scan, Records, nothing_but, complete, refused, scan_of}

-- the records of a scan; a text that is refused at its configuration has none
abbrev pub records_in : Result Scan BadScan → Records
records_in (Err why) = nothing_but (refused why)
records_in (Ok scan) = scan.records

-- the records of a text
abbrev pub records : (text : List ℕ) → Records
records text = records_in (scan_of text)

-- a text that ends too early is refused at its end
abbrev pub ShortIsAtEnd : Type 0
ShortIsAtEnd = (text : List ℕ) (why : BadScan) → (records text).ending ≡ refused why → why.what ≡ Short → why.at ≡ saturated (length text)

-- every other refusal is at a byte of the text
abbrev pub OthersAreInside : Type 0
OthersAreInside = (text : List ℕ) (why : BadScan) → (records text).ending ≡ refused why → why.what ≢ Short → why.at < length text

-- a text that is refused otherwise is the same scan whatever follows it: the same entries, and the same refusal
abbrev pub OthersStay : Type 0
OthersStay = (text more : List ℕ) (why : BadScan) → (records text).ending ≡ refused why → why.what ≢ Short → scan_of (text ++ more) ≡ scan_of text

-- a text that is a whole scan is the same scan whatever follows it
abbrev pub CompleteStays : Type 0
CompleteStays = (text more : List ℕ) → (records text).ending ≡ complete → scan_of (text ++ more) ≡ scan_of text

-- the entries of a text are the first ones of every longer text
abbrev pub EntriesStay : Type 0
EntriesStay = (text more : List ℕ) → (rest : List Entry) × ((records (text ++ more)).entries ≡ (records text).entries ++ rest)
