-- Rows that hold no active block.
use Rattle.std.proofs.Common.{◌≡◌, ℕ, suc, ◌+◌, List, [], ◌∷◌, ◌++◌, false, cond, refl, sym, ap, ◌∙◌, arith}
use Rattle.std.specs.Prelude.{Bool, Some, None, is_some, filter}
use Rattle.std.specs.List.{count_by}
use Rattle.std.proofs.lemmas.Bool.{cond-false}
use Rattle.std.proofs.lemmas.List.{append-nil}
use Rattle.std.proofs.lemmas.List.Sums.{sum_by-cons}
use Rattle.voxel_block.specs.declared.key.BlockKey.{BlockKey}
use Rattle.voxel_block.specs.declared.chunk.ChunkKey.{ChunkKey}
use Rattle.voxel_block.specs.Chunks.{chunk_of}
use Rattle.chunk_store.specs.Rows.{IsRow, Row, keys_in}
use Rattle.chunk_store.proofs.Contents.{Stands, from_first, further, here}

none_held : (row : Row) → count_by is_some row ≡ 0 → keys_in row ≡ []
none_held [] e = refl
none_held (None ∷ row) e = (let s : count_by is_some (None ∷ row) ≡ 0 + count_by is_some row = sum_by-cons (λ p. cond (is_some p) 1 0) None row in none_held row (omega arith))
none_held (Some h ∷ row) e = (let s : count_by is_some (Some h ∷ row) ≡ 1 + count_by is_some row = sum_by-cons (λ p. cond (is_some p) 1 0) (Some h) row in absurd (omega arith))

none_passes : (p : BlockKey → Bool) (c : ChunkKey) (n : ℕ) (row : Row) → Stands c n row → ((k : BlockKey) → chunk_of k ≡ c → p k ≡ false) → filter p (keys_in row) ≡ []
none_passes p c n [] s fails = refl
none_passes p c n (None ∷ row) s fails = none_passes p c (suc n) row (further c n None row s) fails
none_passes p c n (Some h ∷ row) s fails = cond-false (p h.0) _ _ (fails h.0 (here c n h row s).chunk) ∙ none_passes p c (suc n) row (further c n (Some h) row s) fails

-- an empty row adds nothing
pub empty_row : (p : BlockKey → Bool) (keys : List BlockKey) (row : Row) (n : ℕ) → n ≡ count_by is_some row → n ≡ 0 → keys ≡ keys ++ filter p (keys_in row)
empty_row p keys row n count e = sym (ap (λ ks. keys ++ filter p ks) (none_held row (sym count ∙ e)) ∙ append-nil keys)

-- nor does one of whose chunk no block passes
pub other_row : (p : BlockKey → Bool) (keys : List BlockKey) (c : ChunkKey) (row : Row) → IsRow c row → ((k : BlockKey) → chunk_of k ≡ c → p k ≡ false) → keys ≡ keys ++ filter p (keys_in row)
other_row p keys c row r fails = sym (ap (λ ks. keys ++ ks) (none_passes p c 0 row (from_first c row r) fails) ∙ append-nil keys)
