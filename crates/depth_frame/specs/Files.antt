-- How the file of a depth map is put together: a binary PGM (Netpbm), with limits of this project's own.
use Rattle.std.specs.Prelude.{◌≡◌, ℕ, ◌+◌, ◌*◌, ◌≤◌, ◌||◌, ◌&&◌, ◌==◌, not, Bool, true, false, if◌then◌else◌, List, [], ◌∷◌, ◌++◌, map, length, codes}
use Rattle.std.specs.Char.{is_ascii_digit}
use Rattle.std.specs.List.{All, flat_map, list_all}
use Rattle.fixed_geom.specs.Decimal.{number_of}
use Rattle.depth_frame.specs.DepthMaps.{DepthMap}
use Rattle.depth_frame.specs.Pgm.{is_white, is_wide}

-- ---- gaps

-- a white byte, or a comment and the byte that ends it
pub data Piece : Type 0 where
  white : ℕ → Piece
  comment : List ℕ → ℕ → Piece

-- LF or CR
abbrev pub ends_comment : ℕ → Bool
ends_comment b = b == 10 || b == 13

-- a comment begins with `#`
abbrev pub piece_bytes : Piece → List ℕ
piece_bytes (white b) = b ∷ []
piece_bytes (comment text last) = 35 ∷ (text ++ last ∷ [])

-- the bytes are white, or no comment ends before its last byte
abbrev pub is_piece : Piece → Bool
is_piece (white b) = is_white b
is_piece (comment text last) = list_all (λ b. not (ends_comment b)) text && ends_comment last

-- one or more pieces
pub record Gap : Type 0 where
  pub first : Piece
  pub others : List Piece

-- the bytes of its pieces
abbrev pub gap_bytes : Gap → List ℕ
gap_bytes g = piece_bytes g.first ++ flat_map piece_bytes g.others

-- all its pieces are as they should be
abbrev pub is_gap : Gap → Bool
is_gap g = is_piece g.first && list_all is_piece g.others

-- ---- numbers

-- one to nine digits whose number is from 1 to the greatest
pub record IsNumber (bytes : List ℕ) (greatest : ℕ) : Type 0 where
  pub digits : list_all is_ascii_digit bytes ≡ true
  pub some : 1 ≤ length bytes
  pub few : length bytes ≤ 9
  pub least : 1 ≤ number_of bytes
  pub most : number_of bytes ≤ greatest

-- ---- samples

-- a sample's bytes; the high one is 0 where it is not written
pub record SampleBytes : Type 0 where
  pub high : ℕ
  pub low : ℕ

-- the sample that they write
abbrev pub sample_of : SampleBytes → ℕ
sample_of s = 256 * s.high + s.low

-- two bytes where it is wide, the most significant first, else one
abbrev pub sample_bytes : Bool → SampleBytes → List ℕ
sample_bytes wide s = if wide then s.high ∷ s.low ∷ [] else s.low ∷ []

-- a sample is at most the maxval, and a narrow one has no high byte
pub record IsSample (maxval : ℕ) (s : SampleBytes) : Type 0 where
  pub narrow : is_wide maxval ≡ false → s.high ≡ 0
  pub most : sample_of s ≤ maxval

-- ---- the file

-- the parts of a file in their order, but for the `P5` in front
pub record File : Type 0 where
  pub before_width : Gap
  pub width : List ℕ
  pub before_height : Gap
  pub height : List ℕ
  pub before_maxval : Gap
  pub maxval : List ℕ
  pub after_maxval : ℕ
  pub samples : List SampleBytes

-- all up to and with the white byte after the maxval
abbrev pub file_header : File → List ℕ
file_header f = codes "P5" ++ (gap_bytes f.before_width ++ (f.width ++ (gap_bytes f.before_height ++ (f.height ++ (gap_bytes f.before_maxval ++ (f.maxval ++ f.after_maxval ∷ []))))))

-- the bytes of the samples
abbrev pub file_raster : File → List ℕ
file_raster f = flat_map (sample_bytes (is_wide (number_of f.maxval))) f.samples

-- the header, and then the raster
abbrev pub file_bytes : File → List ℕ
file_bytes f = file_header f ++ file_raster f

-- the gaps, numbers, samples and lengths are as they should be
pub record IsFile (f : File) : Type 0 where
  pub gap_width : is_gap f.before_width ≡ true
  pub width : IsNumber f.width 4096
  pub gap_height : is_gap f.before_height ≡ true
  pub height : IsNumber f.height 4096
  pub gap_maxval : is_gap f.before_maxval ≡ true
  pub maxval : IsNumber f.maxval 65535
  pub white : is_white f.after_maxval ≡ true
  pub header : length (file_header f) ≤ 4096
  pub samples : All (IsSample (number_of f.maxval)) f.samples
  pub count : length f.samples ≡ number_of f.width * number_of f.height

-- the depth map that it is
abbrev pub file_depth_map : File → DepthMap
file_depth_map f = record { width = number_of f.width; height = number_of f.height; raw = map sample_of f.samples }

-- a text begins with a file of that depth map, and rest follows it
pub record FoundFile (text : List ℕ) (p : DepthMap) (rest : List ℕ) : Type 0 where
  pub file : File
  pub proper : IsFile file
  pub is : text ≡ file_bytes file ++ rest
  pub value : file_depth_map file ≡ p
