-- What a byte text is as the file of a depth map: a binary PGM (Netpbm), with this project's own limits and offsets of refusals.
use Rattle.std.specs.Prelude.{◌≡◌, ◌≢◌, ◌<◌, ◌≤◌, ℕ, zero, suc, ◌+◌, ◌-◌, ◌*◌, ◌==◌, nat_le, ◌&&◌, ◌||◌, not, Bool, if◌then◌else◌, List, [], ◌∷◌, ◌++◌, length, codes, Result, Ok, Err}
use Rattle.std.specs.Char.{is_ascii_digit}
use Rattle.std.specs.Fmt.{decimal}
use Rattle.std.specs.Int.{to_be_bytes, w16}
use Rattle.std.specs.List.{flat_map}
use Rattle.depth_frame.specs.declared.error.BadPgm.{BadPgm}
use Rattle.depth_frame.specs.declared.error.PgmKind.{PgmKind}
use Rattle.depth_frame.specs.declared.error.PgmKind.TheVariants.{Magic, Header, Maxval, Sample, Short}
use Rattle.depth_frame.specs.declared.header.Mark.{Mark}
use Rattle.depth_frame.specs.declared.header.Number.{Number}
use Rattle.depth_frame.specs.declared.header.Role.{Role}
use Rattle.depth_frame.specs.declared.header.Role.TheVariants as role
use Rattle.depth_frame.specs.declared.header.Shape.{Shape}
use Rattle.depth_frame.specs.DepthMaps.{DepthMap}
use Rattle.fixed_geom.specs.Decimal.{with_digit}
use Rattle.scan_io.specs.Reading.{byte_at, saturated, turned}
use Rattle.scan_io.specs.Steps.{◌>>=◌}

-- ---- bytes; offsets in a text count from its first byte

-- space, or one of TAB, LF, vertical tab, form feed and CR
abbrev pub is_white : ℕ → Bool
is_white b = b == 32 || (nat_le 9 b && nat_le b 13)

-- whether the byte begins a piece of a gap: a white byte, or a comment
abbrev pub starts_gap : ℕ → Bool
starts_gap b = is_white b || b == 35

-- whether a byte goes on in a gap; comment says whether it stands in a comment
abbrev pub in_gap : Bool → ℕ → Bool
in_gap comment b = comment || starts_gap b

-- whether the byte after b stands in a comment; a comment ends with the next LF or CR
abbrev pub in_comment : Bool → ℕ → Bool
in_comment comment b = if comment then not (b == 10 || b == 13) else b == 35

-- the greatest length of a header, in bytes
abbrev pub header_limit : ℕ
header_limit = 4096

-- a refusal of this kind at offset n
abbrev pub fault : PgmKind → ℕ → BadPgm
fault kind n = record { at = n; kind = kind }

-- the input ends at offset n
abbrev pub short : ℕ → BadPgm
short n = fault Short n

-- ---- the header

-- the byte b at offset n
abbrev pub mark : ℕ → ℕ → Mark
mark b n = record { byte = b; offset = n }

-- what byte b at offset n is in a gap: within the header's limit, it goes on in the gap, or is the digit after it
abbrev pub gap_step : Bool → ℕ → ℕ → List ℕ → Result (Mark × List ℕ) BadPgm → Result (Mark × List ℕ) BadPgm
gap_step comment n b rest further =
    if nat_le header_limit n then Err (fault Header n)
    else if in_gap comment b then further
    else if is_ascii_digit b then Ok (mark b n, rest)
    else Err (fault Header n)

-- the digit after what is left of a gap
abbrev pub gap_end : Bool → ℕ → List ℕ → Result (Mark × List ℕ) BadPgm
gap_end comment n [] = Err (short n)
gap_end comment n (b ∷ rest) = gap_step comment n b rest (gap_end (in_comment comment b) (n + 1) rest)

-- what byte b at offset n is after the digits of v: one more digit, of nine at most and within the header's limit, or the byte after the number
abbrev pub number_step : ℕ → ℕ → ℕ → ℕ → List ℕ → Result (Number × List ℕ) BadPgm → Result (Number × List ℕ) BadPgm
number_step first v n b rest further =
    if is_ascii_digit b then (if nat_le (first + 9) n || nat_le header_limit n then Err (fault Header n) else further)
    else Ok (record { value = v; first = first; after = b; offset = n }, rest)

-- the number whose digits from offset first on gave v so far, and the byte after it
abbrev pub number_end : ℕ → ℕ → ℕ → List ℕ → Result (Number × List ℕ) BadPgm
number_end first v n [] = Err (short n)
number_end first v n (b ∷ rest) = number_step first v n b rest (number_end first (with_digit v b) (n + 1) rest)

-- a gap whose first byte was read, and the number after it
unfoldable pub number_at : ℕ → ℕ → List ℕ → Result (Number × List ℕ) BadPgm
number_at b n text = do
  d ← gap_end (b == 35) (n + 1) text
  number_end d.0.offset (d.0.byte - 48) (d.0.offset + 1) d.1

-- a side is judged in this order: the byte after it, its range, the header's length
abbrev pub side_judged : Number → Result Number BadPgm
side_judged k =
    if not (starts_gap k.after) then Err (fault Header k.offset)
    else if not (nat_le 1 k.value && nat_le k.value 4096) then Err (fault Header k.first)
    else if nat_le header_limit k.offset then Err (fault Header k.offset)
    else Ok k

-- the maxval is judged in this order: the byte after it, the header's length, its range
abbrev pub maxval_judged : Number → Result Number BadPgm
maxval_judged k =
    if not (is_white k.after) then Err (fault Header k.offset)
    else if nat_le header_limit k.offset then Err (fault Header k.offset)
    else if not (nat_le 1 k.value && nat_le k.value 65535) then Err (fault Maxval k.first)
    else Ok k

-- a number is judged by its role
abbrev pub judged : Role → Number → Result Number BadPgm
judged role.Side = side_judged
judged role.Maxval = maxval_judged

-- the greatest number of a role
abbrev pub greatest : Role → ℕ
greatest role.Side = 4096
greatest role.Maxval = 65535

-- a gap whose first byte was read, and the number after it, once it is judged
unfoldable pub judged_at : (Number → Result Number BadPgm) → ℕ → ℕ → List ℕ → Result (Number × List ℕ) BadPgm
judged_at judge b n text = do
  k ← number_at b n text
  j ← judge k.0
  Ok (j, k.1)

-- the bytes `P5`
abbrev pub is_magic : ℕ → ℕ → Bool
is_magic a b = a == 80 && b == 53

-- the first two bytes, and the first byte of the gap after them
unfoldable pub magic_at : List ℕ → Result (ℕ × List ℕ) BadPgm
magic_at text = do
  a ← byte_at short 0 text
  b ← byte_at short 1 a.1
  c ← (if is_magic a.0 b.0 then byte_at short 2 b.1 else Err (fault Magic 0))
  if starts_gap c.0 then Ok c else Err (fault Header 2)

-- the sides, the maxval, and the offset of the first sample
unfoldable pub header_at : List ℕ → Result (Shape × List ℕ) BadPgm
header_at text = do
  b ← magic_at text
  w ← judged_at side_judged b.0 2 b.1
  h ← judged_at side_judged w.0.after w.0.offset w.1
  m ← judged_at maxval_judged h.0.after h.0.offset h.1
  Ok (record { width = w.0.value; height = h.0.value; maxval = m.0.value; start = m.0.offset + 1 }, m.1)

-- ---- the raster

-- whether a sample has two bytes
abbrev pub is_wide : ℕ → Bool
is_wide maxval = nat_le 256 maxval

-- the length of a sample, in bytes
abbrev pub sample_len : ℕ → ℕ
sample_len maxval = if is_wide maxval then 2 else 1

-- the sample v, whose first byte is at offset n, is at most the maxval
abbrev pub sample_judged : ℕ → ℕ → ℕ → List ℕ → Result (ℕ × List ℕ) BadPgm
sample_judged maxval n v rest = if nat_le v maxval then Ok (v, rest) else Err (fault Sample n)

-- the sample at offset n, its most significant byte first
abbrev pub one_sample : ℕ → ℕ → List ℕ → Result (ℕ × List ℕ) BadPgm
one_sample maxval n text = do
  a ← byte_at short n text
  if is_wide maxval then (byte_at short (n + 1) a.1 >>= λ b. sample_judged maxval n (256 * a.0 + b.0) b.1) else sample_judged maxval n a.0 a.1

-- the samples with one more in front
abbrev pub with_sample : ℕ → Result (List ℕ × List ℕ) BadPgm → Result (List ℕ × List ℕ) BadPgm
with_sample v (Err why) = Err why
with_sample v (Ok (vs, rest)) = Ok (v ∷ vs, rest)

-- count samples from offset n on
abbrev pub raster_at : ℕ → ℕ → ℕ → List ℕ → Result (List ℕ × List ℕ) BadPgm
raster_at maxval zero n text = Ok ([], text)
raster_at maxval (suc k) n text = one_sample maxval n text >>= λ s. with_sample s.0 (raster_at maxval k (n + sample_len maxval) s.1)

-- ---- the file

-- the file at the front of a text, with offsets from its first byte
unfoldable pub pgm_at : List ℕ → Result (DepthMap × List ℕ) BadPgm
pgm_at text = do
  s ← header_at text
  r ← raster_at s.0.maxval (s.0.width * s.0.height) s.0.start s.1
  Ok (record { width = s.0.width; height = s.0.height; raw = r.0 }, r.1)

-- a refusal with its offset after start bytes; it saturates
abbrev pub placed : ℕ → BadPgm → BadPgm
placed start why = record { at = saturated (start + why.at); kind = why.kind }

-- the file at the front of a text that stands after start bytes, and what follows it
unfoldable pub pgm_of : ℕ → List ℕ → Result (DepthMap × List ℕ) BadPgm
pgm_of start text = turned (placed start) (pgm_at text)

-- ---- written files

-- sides that a file can have
pub record HasSides (p : DepthMap) : Type 0 where
  pub least_width : 1 ≤ p.width
  pub most_width : p.width ≤ 4096
  pub least_height : 1 ≤ p.height
  pub most_height : p.height ≤ 4096

-- `P5`, the sides and the maxval, 65535
abbrev pub header_bytes : ℕ → ℕ → List ℕ
header_bytes width height = (((codes "P5\n" ++ decimal width) ++ codes " ") ++ decimal height) ++ codes "\n65535\n"

-- the file of a depth map, two bytes for each sample, the most significant first
abbrev pub pgm_text : DepthMap → List ℕ
pgm_text p = header_bytes p.width p.height ++ flat_map (to_be_bytes w16) p.raw

-- after any number of bytes, and whatever follows, the bytes are the file of that depth map
abbrev pub IsReadAgain : DepthMap → List ℕ → Type 0
IsReadAgain p bytes = (start : ℕ) (rest : List ℕ) → pgm_of start (bytes ++ rest) ≡ Ok (p, rest)

-- ---- texts that are refused

-- a file that ends too early is refused at the end of the text
abbrev pub ShortIsAtEnd : Type 0
ShortIsAtEnd = (start : ℕ) (text : List ℕ) (why : BadPgm) → pgm_of start text ≡ Err why → why.kind ≡ Short → why.at ≡ saturated (start + length text)

-- a file that is cut off before its last byte is refused so
abbrev pub CutIsShort : Type 0
CutIsShort = (start : ℕ) (text more rest : List ℕ) (p : DepthMap) → pgm_of start (text ++ more) ≡ Ok (p, rest) → length rest < length more → pgm_of start text ≡ Err (short (saturated (start + length text)))

-- and so is a file that is cut off at or before the byte at which it is refused
abbrev pub CutRefusalIsShort : Type 0
CutRefusalIsShort = (start : ℕ) (text more : List ℕ) (why : BadPgm) → pgm_of start (text ++ more) ≡ Err why → (why.kind ≢ Short → start + length text ≤ why.at) → pgm_of start text ≡ Err (short (saturated (start + length text)))

-- every other refusal is at a byte of the text
abbrev pub OthersAreInside : Type 0
OthersAreInside = (start : ℕ) (text : List ℕ) (why : BadPgm) → pgm_of start text ≡ Err why → why.kind ≢ Short → why.at < start + length text

-- every other refusal stays, whatever follows the text
abbrev pub OthersStay : Type 0
OthersStay = (start : ℕ) (text more : List ℕ) (why : BadPgm) → pgm_of start text ≡ Err why → why.kind ≢ Short → pgm_of start (text ++ more) ≡ Err why
