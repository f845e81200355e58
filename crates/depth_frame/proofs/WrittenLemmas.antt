-- What is written of a depth map is a file, and so it is read again.
use Rattle.std.proofs.Common.{◌≡◌, ℕ, suc, ◌+◌, ◌*◌, ◌/◌, ◌%◌, ◌^◌, ◌≤◌, ◌<◌, List, [], ◌∷◌, ◌++◌, length, map, true, Ok, refl, sym, ap, ◌∙◌, append_assoc, length-append, get_or, arith}
use Rattle.std.specs.Prelude.{codes}
use Rattle.std.proofs.lemmas.Bool.Decides.{nat_tests}
use Rattle.std.proofs.lemmas.Fmt.{decimal_by_steps, length-decimal-le}
use Rattle.std.proofs.lemmas.List.{length-map}
use Rattle.std.proofs.lemmas.List.Elements.{All-cons}
use Rattle.std.proofs.lemmas.List.Folds.{list_all-append}
use Rattle.std.proofs.lemmas.List.Sums.{fold_push}
use Rattle.std.specs.Char.{is_ascii_digit}
use Rattle.std.specs.Fmt.{decimal}
use Rattle.std.specs.Int.{to_be_bytes, w16}
use Rattle.std.specs.List.{All, list_all, flat_map}
use Rattle.fixed_geom.specs.Decimal.{number_of}
use Rattle.depth_frame.specs.DepthMaps.{DepthMap}
use Rattle.depth_frame.specs.Files.{white, Gap, gap_bytes, IsNumber, SampleBytes, sample_of, sample_bytes, IsSample, File, file_header, file_bytes, IsFile, file_depth_map}
use Rattle.depth_frame.specs.Pgm.{HasSides, pgm_text, pgm_of}
use Rattle.depth_frame.proofs.FileLemmas.{header_size, file_is_read_after}

-- ---- digits

-- the bytes are digits, and n is their number
record Spells (n : ℕ) (ds : List ℕ) : Type 0 where
  digits : list_all is_ascii_digit ds ≡ true
  value : number_of ds ≡ n
  some : 1 ≤ length ds

digit_test : (n : ℕ) → n < 10 → is_ascii_digit (48 + n) ≡ true
digit_test n h = grind (arith, nat_tests)

spells_one : (n : ℕ) → n < 10 → Spells n ((48 + n) ∷ [])
spells_one n h = record { digits = rw (digit_test n h) refl; value = omega arith; some = omega arith }

spells_more : (n : ℕ) (ds : List ℕ) → 10 ≤ n → Spells (n / 10) ds → Spells n (ds ++ ((48 + n % 10) ∷ []))
spells_more n ds h s =
    let low : n % 10 < 10 = omega arith in
    record {
      digits = rw (list_all-append, s.digits, digit_test (n % 10) low) refl;
      value = rw (fold_push, s.value) (omega arith);
      some = omega (arith, length-append {A = ℕ});
    }

side_is_number : (n : ℕ) → 1 ≤ n → n ≤ 4096 → IsNumber (decimal n) 4096
side_is_number n least most =
    let s = decimal_by_steps Spells spells_one spells_more n (omega arith) in
    record { digits = s.digits; some = s.some; few = length-decimal-le 9 n (omega arith) (omega arith) (omega arith); least = rw s.value least; most = rw s.value most }

side_is : (n : ℕ) → n ≤ 4096 → number_of (decimal n) ≡ n
side_is n most = (decimal_by_steps Spells spells_one spells_more n (omega arith)).value

-- ---- samples

abbrev written_sample : ℕ → SampleBytes
written_sample v = record { high = v / 256 % 256; low = v % 256 }

raster_is : (vs : List ℕ) → flat_map (sample_bytes true) (map written_sample vs) ≡ flat_map (to_be_bytes w16) vs
raster_is [] = refl
raster_is (v ∷ vs) = ap (λ (l : List ℕ). v / 256 % 256 ∷ v % 256 ∷ l) (raster_is vs)

sample_is : (v : ℕ) → v < 2 ^ 16 → sample_of (written_sample v) ≡ v
sample_is v small = omega arith

samples_are : (vs : List ℕ) → ((i : ℕ) → get_or vs i 0 < 2 ^ 16) → map sample_of (map written_sample vs) ≡ vs
samples_are [] small = refl
samples_are (v ∷ vs) small =
    ap (λ (x : ℕ). x ∷ map sample_of (map written_sample vs)) (sample_is v (small 0)) ∙ ap (λ (l : List ℕ). v ∷ l) (samples_are vs (λ i. small (suc i)))

samples_fit : (vs : List ℕ) → ((i : ℕ) → get_or vs i 0 < 2 ^ 16) → All (IsSample 65535) (map written_sample vs)
samples_fit [] small = λ k d low. absurd (omega arith)
samples_fit (v ∷ vs) small =
    let first : v < 2 ^ 16 = small 0 in
    All-cons (IsSample 65535) (written_sample v) (map written_sample vs) (record { narrow = λ narrow. absurd cc; most = omega arith }) (samples_fit vs (λ i. small (suc i)))

-- ---- the file

abbrev one_byte : ℕ → Gap
one_byte b = record { first = white b; others = [] }

abbrev written : DepthMap → File
written p = record {
  before_width = one_byte 10;
  width = decimal p.width;
  before_height = one_byte 32;
  height = decimal p.height;
  before_maxval = one_byte 10;
  maxval = codes "65535";
  after_maxval = 10;
  samples = map written_sample p.raw;
}

written_bytes : (p : DepthMap) → file_bytes (written p) ≡ pgm_text p
written_bytes p = ap (λ (l : List ℕ). file_header (written p) ++ l) (raster_is p.raw) ∙ simp append_assoc

written_is_file : (p : DepthMap) → HasSides p → length p.raw ≡ p.width * p.height → ((i : ℕ) → get_or p.raw i 0 < 2 ^ 16) → IsFile (written p)
written_is_file p sides size small =
    let w = side_is_number p.width sides.least_width sides.most_width in
    let h = side_is_number p.height sides.least_height sides.most_height in
    let header = header_size (gap_bytes (one_byte 10)) (decimal p.width) (gap_bytes (one_byte 32)) (decimal p.height) (gap_bytes (one_byte 10)) (codes "65535") 10 in
    record {
      gap_width = refl;
      width = w;
      gap_height = refl;
      height = h;
      gap_maxval = refl;
      maxval = record { digits = refl; some = omega arith; few = omega arith; least = omega arith; most = omega arith };
      white = refl;
      header = omega (arith, header, w.few, h.few);
      samples = samples_fit p.raw small;
      count = rw (side_is p.width sides.most_width, side_is p.height sides.most_height, length-map) size;
    }

written_map : (p : DepthMap) → HasSides p → ((i : ℕ) → get_or p.raw i 0 < 2 ^ 16) → file_depth_map (written p) ≡ p
written_map p sides small = rw (side_is p.width sides.most_width, side_is p.height sides.most_height, samples_are p.raw small) refl

-- the file is read after any number of bytes, whatever follows it
pub written_is_read : (start : ℕ) (p : DepthMap) (t : List ℕ) → HasSides p → length p.raw ≡ p.width * p.height → ((i : ℕ) → get_or p.raw i 0 < 2 ^ 16) → pgm_of start (pgm_text p ++ t) ≡ Ok (p, t)
written_is_read start p t sides size small =
    ap (λ (l : List ℕ). pgm_of start (l ++ t)) (sym (written_bytes p)) ∙ file_is_read_after start (written p) t (written_is_file p sides size small) ∙ ap (λ (q : DepthMap). Ok (q, t)) (written_map p sides small)
