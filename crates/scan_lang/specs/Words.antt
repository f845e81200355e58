-- The words of a line, and the record that they begin.
use Rattle.std.specs.Prelude.{ℕ, ◌+◌, ◌%◌, ◌==◌, ◌||◌, ◌^◌, ℤ, pos, if◌then◌else◌, Bool, List, [], ◌∷◌, length, codes, slice_index_or, Option, None, Some, Result, Ok, Err, ok_or}
use Rattle.std.specs.List.{slice_split}
use Rattle.std.specs.Str.{bytes_eq}
use Rattle.fixed_geom.specs.Vectors.{vec}
use Rattle.fixed_geom.specs.Decimal.{value_of}
use Rattle.fixed_geom.specs.declared.pose.PoseRows.{PoseRows}
use Rattle.scan_io.specs.Reading.{turned}
use Rattle.scan_io.specs.Steps.{◌>>=◌}
use Rattle.scan_lang.specs.declared.error.BadScan.{BadScan}
use Rattle.scan_lang.specs.declared.error.BadWhat.TheVariants.{Line, Number}
use Rattle.scan_lang.specs.declared.entry.Entry.{Entry}
use Rattle.scan_lang.specs.declared.entry.Entry.TheVariants.{Collect, Render, Voxels, Points, Sum, Place, End}
use Rattle.scan_lang.specs.declared.head.Head.{Head}
use Rattle.scan_lang.specs.declared.head.Head.TheVariants.{Frame, Whole}
use Rattle.scan_lang.specs.Coordinates.{coordinate_of}
use Rattle.scan_lang.specs.Offsets.{offset_after, fault}

-- ---- words

-- space, TAB or CR
abbrev pub is_blank : ℕ → Bool
is_blank b = b == 32 || b == 9 || b == 13

-- a word, and the number of bytes before it in the line
pub record Word : Type 0 where
  pub at : ℕ
  pub bytes : List ℕ

-- the pieces that are not empty, where the first begins at an index, and one byte stands between two of them
abbrev pub words_in : (at : ℕ) → List (List ℕ) → List Word
words_in at [] = []
words_in at (piece ∷ pieces) = if length piece == 0 then words_in (at + 1) pieces else record { at = at; bytes = piece } ∷ words_in (at + length piece + 1) pieces

-- the words of a line: its longest runs of bytes that are not blank
unfoldable pub words_of : (line : List ℕ) → List Word
words_of line = words_in 0 (slice_split is_blank line)

-- ---- the numbers of a frame

-- an entry of the rotation is kept in units of 2^-30; a translation, the last of four numbers of a row, is written in metres and kept in micrometres
abbrev pub scale_of : (index : ℕ) → ℤ
scale_of i = if i % 4 == 3 then pos (10 ^ 6) else pos (2 ^ 30)

-- the number that a word writes, in a line at an offset
abbrev pub number_at : (offset index : ℕ) → Word → Result ℤ BadScan
number_at offset i w = turned (λ why. fault Number (offset_after offset w.at)) (value_of (scale_of i) w.bytes)

-- the numbers that the words write; the first number has this index
abbrev pub numbers_from : (offset index : ℕ) → List Word → Result (List ℤ) BadScan
numbers_from offset i [] = Ok []
numbers_from offset i (w ∷ ws) = number_at offset i w >>= λ n. numbers_from offset (i + 1) ws >>= λ ns. Ok (n ∷ ns)

abbrev pub nth : List ℤ → ℕ → ℤ
nth ns i = slice_index_or ns i (pos 0)

-- the first three rows of the camera-to-world matrix, of its twelve numbers row by row
abbrev pub rows_in : List ℤ → PoseRows
rows_in ns = record {
  r = nth ns 0 ∷ nth ns 1 ∷ nth ns 2 ∷ nth ns 4 ∷ nth ns 5 ∷ nth ns 6 ∷ nth ns 8 ∷ nth ns 9 ∷ nth ns 10 ∷ [];
  t = vec (nth ns 3) (nth ns 7) (nth ns 11);
}

-- ---- the record

-- a line that is no record
abbrev pub no_record : (offset : ℕ) → Result Head BadScan
no_record offset = Err (fault Line offset)

-- a frame has twelve numbers
abbrev pub frame_head : (offset : ℕ) → List Word → Result Head BadScan
frame_head offset ws = if length ws == 12 then (numbers_from offset 0 ws >>= λ ns. Ok (Frame (rows_in ns))) else no_record offset

-- a coordinate of a block, which a word writes in a line at an offset
abbrev pub coordinate_at : (offset : ℕ) → Word → Result ℤ BadScan
coordinate_at offset w = ok_or (coordinate_of w.bytes) (fault Number (offset_after offset w.at))

-- a block whose place is asked for, by the words of its coordinates
abbrev pub place_with : (offset : ℕ) → (x y z : Word) → Result Head BadScan
place_with offset x y z = do
  i ← coordinate_at offset x
  j ← coordinate_at offset y
  k ← coordinate_at offset z
  Ok (Whole (Place (record { x = i; y = j; z = k })))

-- it has three coordinates
abbrev pub place_head : (offset : ℕ) → List Word → Result Head BadScan
place_head offset (x ∷ y ∷ z ∷ []) = place_with offset x y z
place_head offset ws = no_record offset

-- the record that is one word
abbrev pub one_word : (word : List ℕ) → Option Entry
one_word word =
    if bytes_eq word (codes "collect") then Some Collect
    else if bytes_eq word (codes "render") then Some Render
    else if bytes_eq word (codes "voxels") then Some Voxels
    else if bytes_eq word (codes "points") then Some Points
    else if bytes_eq word (codes "sum") then Some Sum
    else if bytes_eq word (codes "end") then Some End
    else None

-- no word follows it
abbrev pub alone : (offset : ℕ) → Option Entry → List Word → Result Head BadScan
alone offset None ws = no_record offset
alone offset (Some entry) ws = if length ws == 0 then Ok (Whole entry) else no_record offset

-- by the first word, and those after it
abbrev pub head_with : (offset : ℕ) → (word : List ℕ) → List Word → Result Head BadScan
head_with offset word ws =
    if bytes_eq word (codes "frame") then frame_head offset ws
    else if bytes_eq word (codes "place") then place_head offset ws
    else alone offset (one_word word) ws

abbrev pub head_in : (offset : ℕ) → List Word → Result (Option Head) BadScan
head_in offset [] = Ok None
head_in offset (w ∷ ws) = head_with offset w.bytes ws >>= λ head. Ok (Some head)

-- what the line at an offset begins; nothing where it has no words
unfoldable pub head_of : (offset : ℕ) → (line : List ℕ) → Result (Option Head) BadScan
head_of offset line = head_in offset (words_of line)
