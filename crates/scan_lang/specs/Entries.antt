-- The records of a scan.
use Rattle.std.specs.Prelude.{Bool, true, false}
use Rattle.scan_lang.specs.declared.entry.Entry.{Entry}
use Rattle.scan_lang.specs.declared.entry.Entry.TheVariants.{End}

-- whether a record is the last one of a scan
abbrev pub is_end : Entry → Bool
is_end End = true
is_end other = false
