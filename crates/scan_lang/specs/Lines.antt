-- The first line of a text.
use Rattle.std.specs.Prelude.{ℕ, ◌+◌, ◌==◌, nat_le, if◌then◌else◌, List, length, take, drop, position, Option, None, Some, Result, Ok, Err}
use Rattle.scan_lang.specs.declared.error.BadScan.{BadScan}
use Rattle.scan_lang.specs.declared.error.BadWhat.TheVariants.{Long}
use Rattle.scan_lang.specs.Offsets.{offset_after, fault, short}

-- the greatest number of bytes of the configuration's line and of every other line, without the line feed
abbrev pub config_line_limit : ℕ
config_line_limit = 4096

abbrev pub line_limit : ℕ
line_limit = 1024

-- the line has more bytes than the limit before its line feed
abbrev pub long : (limit offset : ℕ) → BadScan
long limit offset = fault Long (offset_after offset limit)

-- a text without a line feed
abbrev pub endless : (limit offset : ℕ) → List ℕ → BadScan
endless limit offset text = if nat_le (length text) limit then short (offset_after offset (length text)) else long limit offset

-- the line at an offset with n bytes before its line feed, and the bytes after the line feed
abbrev pub line_before : (limit offset : ℕ) → (text : List ℕ) → (n : Option ℕ) → Result (List ℕ × List ℕ) BadScan
line_before limit offset text None = Err (endless limit offset text)
line_before limit offset text (Some n) = if nat_le n limit then Ok (take n text, drop (n + 1) text) else Err (long limit offset)

-- the first line of the text at an offset, and the bytes after its line feed; it has at most limit bytes before it
unfoldable pub first_line : (limit offset : ℕ) → List ℕ → Result (List ℕ × List ℕ) BadScan
first_line limit offset text = line_before limit offset text (position (λ b. b == 10) text)
