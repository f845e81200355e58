-- What a store's rows hold, key by key.
use Rattle.std.proofs.Common.{◌≡◌, ◌≢◌, ℕ, zero, suc, ◌+◌, ◌<◌, List, [], ◌∷◌, ◌++◌, true, false, cond, refl, sym, ap, ◌∙◌, arith, inl, inr, subst}
use Rattle.std.specs.Prelude.{Option, Some, None, is_some}
use Rattle.std.specs.Option.{option_and_then, option_map, option_or}
use Rattle.std.specs.List.{IsDistinct}
use Rattle.std.specs.Map.{keys_of, lookup}
use Rattle.std.specs.FinMap.{find, get, get-from_entries}
use Rattle.std.specs.FinSet.{contains, contains-from_list}
use Rattle.std.proofs.lemmas.Bool.{cases_Bool, cond-true, cond-false}
use Rattle.std.proofs.lemmas.Map.{lookup-none}
use Rattle.std.proofs.lemmas.Map.Entries.{none_past_head}
use Rattle.std.proofs.lemmas.Map.Keys.{IsDistinct-tail}
use Rattle.voxel_block.specs.declared.key.BlockKey.{BlockKey}
use Rattle.voxel_block.specs.declared.chunk.ChunkKey.{ChunkKey}
use Rattle.voxel_block.specs.Chunks.{chunk_of}
use Rattle.voxel_block.specs.Keys.{key_cmp, same_key}
use Rattle.voxel_block.proofs.KeyLaws.{key_itself, keys_total, other_key}
use Rattle.chunk_store.specs.Rows.{Held, IsKeyOf, IsRow, Row, bytes_in, chunk_eq, held_at, held_in, place_of}
use Rattle.chunk_store.specs.Store.{contents_of, held_of, opened_of}
use Rattle.chunk_store.proofs.Axes.{same_block}
use Rattle.chunk_store.proofs.ChunkLaws.{among_keys, chunk_decides, chunk_equiv, chunks_total}

-- ---- one row

-- the places of a row hold keys of the places from n on
abbrev pub Stands : ChunkKey → ℕ → Row → Type 0
Stands c n row = (i : ℕ) (h : Held) → held_at row i ≡ Some h → IsKeyOf c (n + i) h.0

pub further : (c : ChunkKey) (n : ℕ) (place : Option Held) (row : Row) → Stands c n (place ∷ row) → Stands c (suc n) row
further c n place row s i h e = let m : n + suc i ≡ suc n + i = omega arith in subst (λ (j : ℕ). IsKeyOf c j h.0) m (s (suc i) h e)

pub here : (c : ChunkKey) (n : ℕ) (h : Held) (row : Row) → Stands c n (Some h ∷ row) → IsKeyOf c n h.0
here c n h row s = let m : n + 0 ≡ n = omega arith in subst (λ (j : ℕ). IsKeyOf c j h.0) m (s 0 h refl)

pub from_first : (c : ChunkKey) (row : Row) → IsRow c row → Stands c 0 row
from_first c row r i h e = let m : i ≡ 0 + i = omega arith in subst (λ (j : ℕ). IsKeyOf c j h.0) m (r i h e)

module _ (q : BlockKey) (c : ChunkKey) where
  find_other : (n : ℕ) (row : Row) → Stands c n row → chunk_of q ≢ c → find key_cmp q (held_in row) ≡ None
  find_other n [] s ne = refl
  find_other n (None ∷ row) s ne = find_other (suc n) row (further c n None row s) ne
  find_other n (Some h ∷ row) s ne = cond-false (same_key q h.0) _ _ (other_key q h.0 (λ e. ne (ap chunk_of e ∙ (here c n h row s).chunk))) ∙ find_other (suc n) row (further c n (Some h) row s) ne

  pub find_past : (n : ℕ) (row : Row) → Stands c n row → place_of q < n → find key_cmp q (held_in row) ≡ None
  find_past n [] s lt = refl
  find_past n (None ∷ row) s lt = find_past (suc n) row (further c n None row s) (omega arith)
  find_past n (Some h ∷ row) s lt =
      cond-false (same_key q h.0) _ _ (other_key q h.0 (λ e. let p : place_of q ≡ n = ap place_of e ∙ (here c n h row s).place in absurd (omega arith)))
      ∙ find_past (suc n) row (further c n (Some h) row s) (omega arith)

  find_here : (n : ℕ) (row : Row) (d : ℕ) → Stands c n row → chunk_of q ≡ c → place_of q ≡ n + d → find key_cmp q (held_in row) ≡ option_map (λ h. h.1) (held_at row d)
  find_here n [] d s e p = refl
  find_here n (None ∷ row) zero s e p = find_past (suc n) row (further c n None row s) (omega arith)
  find_here n (None ∷ row) (suc d) s e p = find_here (suc n) row d (further c n None row s) e (omega arith)
  find_here n (Some h ∷ row) zero s e p =
      let k = here c n h row s in
      let one : q ≡ h.0 = same_block q h.0 (e ∙ sym k.chunk) (p ∙ omega arith ∙ sym k.place) in
      cond-true (same_key q h.0) _ _ (ap (same_key q) (sym one) ∙ key_itself q)
  find_here n (Some h ∷ row) (suc d) s e p =
      let k = here c n h row s in
      cond-false (same_key q h.0) _ _ (other_key q h.0 (λ s. let z : place_of q ≡ n = ap place_of s ∙ k.place in absurd (omega arith)))
      ∙ find_here (suc n) row d (further c n (Some h) row s) e (omega arith)

find_in_row : (q : BlockKey) (c : ChunkKey) (row : Row) → IsRow c row → chunk_of q ≡ c → find key_cmp q (held_in row) ≡ bytes_in row q
find_in_row q c row r e = find_here q c 0 row (place_of q) (from_first c row r) e (omega arith)

-- ---- all rows

find_both : (q : BlockKey) (xs ys : List Held) → find key_cmp q (xs ++ ys) ≡ option_or (find key_cmp q xs) (find key_cmp q ys)
find_both q [] ys = refl
find_both q (x ∷ xs) ys = elim (same_key q x.0) as (λ b. cond b (Some x.1) (find key_cmp q (xs ++ ys)) ≡ option_or (cond b (Some x.1) (find key_cmp q xs)) (find key_cmp q ys)) [
  | true ↦ refl
  | false ↦ find_both q xs ys
]

or_none : {X : Type 0} (o : Option X) → option_or o None ≡ o
or_none None = refl
or_none (Some x) = refl

abbrev Rows : Type 0
Rows = List (ChunkKey × Row)

-- each row that a look-up finds is one of its chunk
abbrev pub AreRows : Rows → Type 0
AreRows es = (c : ChunkKey) (row : Row) → lookup (chunk_eq c) es ≡ Some row → IsRow c row

-- no later row is of the chunk of the first
pub none_later : (e : ChunkKey × Row) (es : Rows) (c : ChunkKey) → IsDistinct chunk_eq (keys_of (e ∷ es)) → chunk_eq c e.0 ≡ true → lookup (chunk_eq c) es ≡ None
none_later e es c d t = lookup-none (chunk_eq c) es (none_past_head chunk_equiv c e es d t)

pub rows_later : (e : ChunkKey × Row) (es : Rows) → IsDistinct chunk_eq (keys_of (e ∷ es)) → AreRows (e ∷ es) → AreRows es
rows_later e es d r c row found =
    elim (cases_Bool (chunk_eq c e.0)) [
      | inl t ↦ (let z : ◌≡◌ {A = Option Row} None (Some row) = sym (none_later e es c d t) ∙ found in absurd (cc))
      | inr f ↦ r c row (cond-false (chunk_eq c e.0) _ _ f ∙ found)
    ]

pub first_row : (e : ChunkKey × Row) (es : Rows) → AreRows (e ∷ es) → IsRow e.0 e.1
first_row e es r = r e.0 e.1 (cond-true (chunk_eq e.0 e.0) _ _ (chunk_equiv.refl e.0))

pub find_held : (es : Rows) (q : BlockKey) → IsDistinct chunk_eq (keys_of es) → AreRows es
    → find key_cmp q (held_of es) ≡ option_and_then (λ row. bytes_in row q) (lookup (chunk_eq (chunk_of q)) es)
find_held [] q d r = refl
find_held (e ∷ es) q d r =
    let rest = find_held es q (IsDistinct-tail chunk_eq e.0 (keys_of es) d) (rows_later e es d r) in
    find_both q (held_in e.1) (held_of es) ∙
    elim (cases_Bool (chunk_eq (chunk_of q) e.0)) [
      | inl t ↦ (
          let none : find key_cmp q (held_of es) ≡ None = rest ∙ ap (option_and_then (λ row. bytes_in row q)) (none_later e es (chunk_of q) d t) in
          ap (option_or (find key_cmp q (held_in e.1))) none ∙ or_none _ ∙ find_in_row q e.0 e.1 (first_row e es r) ((chunk_decides (chunk_of q) e.0).0 t)
          ∙ sym (ap (option_and_then (λ row. bytes_in row q)) (cond-true (chunk_eq (chunk_of q) e.0) (Some e.1) (lookup (chunk_eq (chunk_of q)) es) t)))
      | inr f ↦ (
          let ne : chunk_of q ≢ e.0 = λ s. (let z : false ≡ true = sym f ∙ (chunk_decides (chunk_of q) e.0).1 s in absurd (cc)) in
          ap (λ o. option_or o (find key_cmp q (held_of es))) (find_other q e.0 0 e.1 (from_first e.0 e.1 (first_row e es r)) ne) ∙ rest
          ∙ sym (ap (option_and_then (λ row. bytes_in row q)) (cond-false (chunk_eq (chunk_of q) e.0) (Some e.1) (lookup (chunk_eq (chunk_of q)) es) f)))
    ]

-- what the map of the rows has at a key
pub get_contents : (es : Rows) (q : BlockKey) → IsDistinct chunk_eq (keys_of es) → AreRows es
    → get (contents_of es) q ≡ option_and_then (λ row. bytes_in row q) (lookup (chunk_eq (chunk_of q)) es)
unfolding contents_of
get_contents es q d r = get-from_entries keys_total (held_of es) q ∙ find_held es q d r

pub is_opened : (es : Rows) (c : ChunkKey) → contains (opened_of es) c ≡ is_some (lookup (chunk_eq c) es)
unfolding opened_of
is_opened es c = contains-from_list chunks_total (keys_of es) c ∙ among_keys es c
