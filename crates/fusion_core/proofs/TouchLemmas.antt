-- Blocks that are touched: a key that a map lacks gets a new block.
use Rattle.std.proofs.Common.{◌≡◌, ℕ, ◌+◌, zero, suc, refl, sym, ap, ◌∙◌, arith, List, [], ◌∷◌, ◌++◌, true, false, cond, ◌||◌, zero-add, add-one}
use Rattle.std.proofs.Math.Bool.{or-true, or-false, or_assoc}
use Rattle.std.specs.List.{range_with_len, flat_map, fold, dedup, dedup_from, list_any}
use Rattle.std.specs.FinMap.{contains_key, get, insert, get-insert}
use Rattle.std.specs.Prelude.{is_some, unwrap_or, Option, Some, None}
use Rattle.std.proofs.lemmas.List.{append-nil}
use Rattle.std.proofs.lemmas.List.Sums.{fold-append}
use Rattle.std.proofs.lemmas.Grind.{flat_map-append}
use Rattle.voxel_block.specs.declared.key.BlockKey.{BlockKey}
use Rattle.voxel_block.specs.declared.voxel.Voxel.{Voxel}
use Rattle.voxel_block.specs.Blocks.{new_block}
use Rattle.voxel_block.specs.Keys.{same_key}
use Rattle.voxel_block.proofs.KeyLaws.{key_itself, keys_total, same_key_is}
use Rattle.fusion_core.specs.Maps.{BlockMap, touched, voxels_at}

-- ---- folds over the first indices

first_more : (a n j : ℕ) → a + n ≡ j → range_with_len a (suc n) ≡ range_with_len a n ++ j ∷ []
first_more a zero j e = ap (λ i. i ∷ []) (omega arith)
first_more a (suc n) j e = ap (λ is. a ∷ is) (first_more (a + 1) n j (omega arith))

flat_map_more : {A : Type 0} (f : ℕ → List A) (n : ℕ) → flat_map f (range_with_len 0 (suc n)) ≡ flat_map f (range_with_len 0 n) ++ f n
flat_map_more f n = ap (flat_map f) (first_more 0 n n (zero-add n)) ∙ flat_map-append f (range_with_len 0 n) (n ∷ []) ∙ ap (λ xs. flat_map f (range_with_len 0 n) ++ xs) (append-nil (f n))

-- one list more
pub fold_list : {A B : Type 0} (g : B → A → B) (f : ℕ → List A) (m : B) (n : ℕ) → fold g (fold g m (flat_map f (range_with_len 0 n))) (f n) ≡ fold g m (flat_map f (range_with_len 0 (n + 1)))
fold_list g f m n = sym (rw add-one (ap (fold g m) (flat_map_more f n) ∙ fold-append g m (flat_map f (range_with_len 0 n)) (f n)))

-- ---- one block

has_again : (m : BlockMap) (b q : BlockKey) → contains_key m b ≡ true → contains_key m q ≡ (contains_key m q || same_key q b)
has_again m b q had =
    elim (same_key q b) as (λ t. same_key q b ≡ t → contains_key m q ≡ (contains_key m q || t)) [
      | true ↦ λ e. ap (contains_key m) (same_key_is q b e) ∙ had ∙ sym (or-true (contains_key m q))
      | false ↦ λ e. sym (or-false (contains_key m q))
    ] refl

has_put : (m : BlockMap) (b q : BlockKey) → contains_key (insert m b new_block) q ≡ (contains_key m q || same_key q b)
has_put m b q = ap is_some (get-insert keys_total m b new_block q)
    ∙ elim (same_key q b) as (λ t. is_some (cond t (Some new_block) (get m q)) ≡ (is_some (get m q) || t)) [ true ↦ sym (or-true (is_some (get m q))) | false ↦ sym (or-false (is_some (get m q))) ]

has_touched : (m : BlockMap) (b q : BlockKey) → contains_key (touched m b) q ≡ (contains_key m q || same_key q b)
has_touched m b q =
    elim (contains_key m b) as (λ t. contains_key m b ≡ t → contains_key (cond t m (insert m b new_block)) q ≡ (contains_key m q || same_key q b)) [
      | true ↦ λ had. has_again m b q had
      | false ↦ λ lacked. has_put m b q
    ] refl

absent : (o : Option (List Voxel)) → is_some o ≡ false → new_block ≡ unwrap_or o new_block
absent None e = refl
absent (Some x) e = absurd (cc)

at_put : (m : BlockMap) (b q : BlockKey) → contains_key m b ≡ false → voxels_at (insert m b new_block) q ≡ voxels_at m q
at_put m b q lacked = ap (λ o. unwrap_or o new_block) (get-insert keys_total m b new_block q)
    ∙ elim (same_key q b) as (λ t. same_key q b ≡ t → unwrap_or (cond t (Some new_block) (get m q)) new_block ≡ voxels_at m q) [
      | true ↦ λ e. absent (get m q) (ap (contains_key m) (same_key_is q b e) ∙ lacked)
      | false ↦ λ e. refl
    ] refl

at_touched : (m : BlockMap) (b q : BlockKey) → voxels_at (touched m b) q ≡ voxels_at m q
at_touched m b q =
    elim (contains_key m b) as (λ t. contains_key m b ≡ t → voxels_at (cond t m (insert m b new_block)) q ≡ voxels_at m q) [
      | true ↦ λ had. refl
      | false ↦ λ lacked. at_put m b q lacked
    ] refl

-- ---- the blocks of a list

pub has_all : (m : BlockMap) (ks : List BlockKey) (q : BlockKey) → contains_key (fold touched m ks) q ≡ (contains_key m q || list_any (same_key q) ks)
has_all m [] q = sym (or-false (contains_key m q))
has_all m (b ∷ ks) q = has_all (touched m b) ks q ∙ ap (λ t. t || list_any (same_key q) ks) (has_touched m b q) ∙ or_assoc (contains_key m q) (same_key q b) (list_any (same_key q) ks)

pub at_all : (m : BlockMap) (ks : List BlockKey) (q : BlockKey) → voxels_at (fold touched m ks) q ≡ voxels_at m q
at_all m [] q = refl
at_all m (b ∷ ks) q = at_all (touched m b) ks q ∙ at_touched m b q

-- ---- a key that is touched again

-- to touch a block that is there changes nothing
touched_twice : (m : BlockMap) (b : BlockKey) → touched (touched m b) b ≡ touched m b
touched_twice m b = ap (λ c. cond c (touched m b) (insert (touched m b) b new_block))
    (has_touched m b b ∙ ap (λ t. contains_key m b || t) (key_itself b) ∙ or-true (contains_key m b))

-- so a list may leave out each key that is equal to the one just before
touched_from : (m : BlockMap) (k : BlockKey) (ks : List BlockKey) → fold touched m (dedup_from same_key k ks) ≡ fold touched (touched m k) ks
touched_from m k [] = refl
touched_from m k (q ∷ ks) =
    elim (same_key q k) as (λ t. same_key q k ≡ t → fold touched m (cond t (dedup_from same_key k ks) (k ∷ dedup_from same_key q ks)) ≡ fold touched (touched (touched m k) q) ks) [
      | true ↦ λ e. touched_from m k ks ∙ ap (λ n. fold touched n ks) (sym (touched_twice m k) ∙ ap (touched (touched m k)) (sym (same_key_is q k e)))
      | false ↦ λ e. touched_from (touched m k) q ks
    ] refl

pub touched_dedup : (m : BlockMap) (ks : List BlockKey) → fold touched m (dedup same_key ks) ≡ fold touched m ks
touched_dedup m [] = refl
touched_dedup m (k ∷ ks) = touched_from m k ks
