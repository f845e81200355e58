-- Where and why a scan is refused.
use Rattle.std.specs.Prelude.{ℕ, ◌+◌}
use Rattle.scan_io.specs.Reading.{saturated}
use Rattle.depth_frame.specs.declared.error.BadPgm.{BadPgm}
use Rattle.depth_frame.specs.declared.error.PgmKind.{PgmKind}
use Rattle.depth_frame.specs.declared.error.PgmKind.TheVariants as pgm
use Rattle.scan_lang.specs.declared.error.BadScan.{BadScan}
use Rattle.scan_lang.specs.declared.error.BadWhat.{BadWhat}
use Rattle.scan_lang.specs.declared.error.BadWhat.TheVariants.{Pgm, Short}

-- the offset n bytes after an offset; an offset saturates at 2^64 - 1
abbrev pub offset_after : (offset n : ℕ) → ℕ
offset_after offset n = saturated (offset + n)

-- a refusal of this kind at an offset
abbrev pub fault : BadWhat → (offset : ℕ) → BadScan
fault what offset = record { at = offset; what = what }

-- the input ends at an offset
abbrev pub short : (offset : ℕ) → BadScan
short offset = fault Short offset

-- what is bad in a scan whose depth map is bad: a depth map that ends too early is a scan that does
abbrev pub pgm_what : PgmKind → BadWhat
pgm_what pgm.Magic = Pgm pgm.Magic
pgm_what pgm.Header = Pgm pgm.Header
pgm_what pgm.Maxval = Pgm pgm.Maxval
pgm_what pgm.Sample = Pgm pgm.Sample
pgm_what pgm.Short = Short

-- a depth map's refusal as one of the scan
abbrev pub bad_pgm : BadPgm → BadScan
bad_pgm why = fault (pgm_what why.kind) why.at
