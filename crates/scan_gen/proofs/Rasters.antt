-- Rows and rasters, as they grow.
use Rattle.std.proofs.Common.{◌≡◌, ℕ, ◌+◌, List, [], ◌∷◌, ◌++◌, map, sym, ap, ◌∙◌, append-nil, append_assoc, zero-add}
use Rattle.std.specs.List.{flat_map, range_with_len}
use Rattle.std.proofs.lemmas.Grind.{flat_map-append}
use Rattle.std.proofs.lemmas.List.Folds.{flat_map-map}
use Rattle.std.proofs.lemmas.List.FromFn.{map-range_with_len_more}
use Rattle.scan_gen.specs.declared.view.View.{View}
use Rattle.scan_gen.specs.Scene.{column_offset, row_offset, depth, sample, sample_of}
use Rattle.scan_gen.specs.Generated.{two_bytes, row_front, row_bytes, raster_front}

lists_more : (f : ℕ → List ℕ) (n : ℕ) → flat_map f (range_with_len 0 (n + 1)) ≡ flat_map f (range_with_len 0 n) ++ f n
lists_more f n =
    sym (flat_map-map f (λ i. i) (range_with_len 0 (n + 1))) ∙ ap (flat_map f) (map-range_with_len_more (λ i. i) 0 n n (zero-add n)) ∙ flat_map-append f (map (λ i. i) (range_with_len 0 n)) (n ∷ [])
    ∙ (λ x. flat_map-map f (λ i. i) (range_with_len 0 n) x ++ append-nil (f n) x)

more : (f : ℕ → List ℕ) (n : ℕ) (old now new : List ℕ) → now ≡ old ++ flat_map f (range_with_len 0 n) → new ≡ now ++ f n → new ≡ old ++ flat_map f (range_with_len 0 (n + 1))
more f n old now new e g =
    g ∙ ap (λ (l : List ℕ). l ++ f n) e ∙ append_assoc old (flat_map f (range_with_len 0 n)) (f n) ∙ ap (λ (l : List ℕ). old ++ l) (sym (lists_more f n))

-- a sample more
pub row_none : (w : View) (v : ℕ) (old : List ℕ) → old ≡ old ++ row_front w v 0
unfolding row_front
row_none w v old = sym (append-nil old)

pub row_more : (w : View) (v n d : ℕ) (old now new : List ℕ) → now ≡ old ++ row_front w v n → d ≡ depth w (column_offset n) (row_offset v) → new ≡ now ++ two_bytes (sample_of d) → new ≡ old ++ row_front w v (n + 1)
unfolding row_front
row_more w v n d old now new e h g = more (λ u. two_bytes (sample w u v)) n old now new e (g ∙ ap (λ (x : ℕ). now ++ two_bytes (sample_of x)) h)

-- a row more
pub raster_none : (w : View) (old : List ℕ) → old ≡ old ++ raster_front w 0
unfolding raster_front
raster_none w old = sym (append-nil old)

pub raster_more : (w : View) (n : ℕ) (old now new : List ℕ) → now ≡ old ++ raster_front w n → new ≡ now ++ row_bytes w n → new ≡ old ++ raster_front w (n + 1)
unfolding raster_front
raster_more w n old now new e g = more (row_bytes w) n old now new e g
