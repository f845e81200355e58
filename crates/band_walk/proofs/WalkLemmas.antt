-- The samples of a segment and the pixels of a row, one after the other.
use Rattle.std.proofs.Common.{◌≡◌, ℕ, ◌+◌, ◌-◌, ◌<◌, zero, suc, ap, ◌∙◌, arith, List, [], ◌∷◌, ◌++◌, map, zero-add}
use Rattle.std.specs.List.{range_with_len, flat_map}
use Rattle.std.proofs.lemmas.List.{append-nil, map-append}
use Rattle.std.proofs.lemmas.Grind.{flat_map-append}

-- ---- ranges

range_one_more : (a n j : ℕ) → a + n ≡ j → range_with_len a (suc n) ≡ range_with_len a n ++ j ∷ []
range_one_more a zero j e = ap (λ i. i ∷ []) (omega arith)
range_one_more a (suc n) j e = ap (λ is. a ∷ is) (range_one_more (a + 1) n j (omega arith))

pub flat_map_one_more : {A : Type 0} (f : ℕ → List A) (n : ℕ) → flat_map f (range_with_len 0 (suc n)) ≡ flat_map f (range_with_len 0 n) ++ f n
flat_map_one_more f n = ap (flat_map f) (range_one_more 0 n n (zero-add n)) ∙ flat_map-append f (range_with_len 0 n) (n ∷ []) ∙ ap (λ xs. flat_map f (range_with_len 0 n) ++ xs) (append-nil (f n))

-- from j to below m: j and the others
pub range_next : (j m : ℕ) → j < m → range_with_len j (m - j) ≡ j ∷ range_with_len (j + 1) (m - (j + 1))
range_next j m h = let e : m - j ≡ suc (m - (j + 1)) = omega arith in ap (range_with_len j) e

-- ---- lists over them

pub map_next : {A : Type 0} (f : ℕ → A) (j m : ℕ) → j < m → map f (range_with_len j (m - j)) ≡ f j ∷ map f (range_with_len (j + 1) (m - (j + 1)))
map_next f j m h = ap (map f) (range_next j m h)

pub flat_map_next : {A : Type 0} (f : ℕ → List A) (j m : ℕ) → j < m → flat_map f (range_with_len j (m - j)) ≡ f j ++ flat_map f (range_with_len (j + 1) (m - (j + 1)))
flat_map_next f j m h = ap (flat_map f) (range_next j m h)

pub map_one_more : {A : Type 0} (f : ℕ → A) (n : ℕ) → map f (range_with_len 0 (n + 1)) ≡ map f (range_with_len 0 n) ++ f n ∷ []
map_one_more f n = ap (λ m. map f (range_with_len 0 m)) (the_next n) ∙ ap (map f) (range_one_more 0 n n (zero-add n)) ∙ map-append f (range_with_len 0 n) (n ∷ [])
  where
    the_next : (n : ℕ) → n + 1 ≡ suc n
    the_next n = omega arith
