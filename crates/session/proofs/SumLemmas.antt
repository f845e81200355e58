-- Sums over known voxels, one after another.
use Rattle.std.proofs.Common.{◌≡◌, ℕ, zero, suc, ◌+◌, List, [], ◌∷◌, ◌++◌, length, map, drop, refl, sym, ap, ◌∙◌, arith, add-zero}
use Rattle.std.specs.Prelude.{ℤ, ◌+ℤ◌, Option, Some, None, option_to_list, slice_get}
use Rattle.std.specs.Option.{option_and_then}
use Rattle.std.specs.List.{IsDistinct, flat_map, fold, sum_by}
use Rattle.std.specs.FinMap.{FinMap, entries, from_entries}
use Rattle.std.specs.Map.{keys_of}
use Rattle.std.proofs.lemmas.Int.{ints}
use Rattle.std.proofs.lemmas.List.Sums.{fold-append, sum_by-cons}
use Rattle.voxel_block.specs.declared.key.BlockKey.{BlockKey}
use Rattle.voxel_block.specs.declared.voxel.Voxel.{Voxel}
use Rattle.voxel_block.specs.Keys.{key_cmp, same_key}
use Rattle.voxel_block.specs.Packing.{voxels_in}
use Rattle.block_heap.specs.declared.cell.Cell.{Cell}
use Rattle.block_heap.specs.declared.cell.Cell.TheVariants.{Free, Owned}
use Rattle.block_heap.specs.Cells.{content}
use Rattle.chunk_store.proofs.Folding.{Commutes, fold_either, fold_entries}
use Rattle.streamer.specs.Owners.{owned_blocks}
use Rattle.streamer.specs.Places.{IsPlaced, Places, blocks_of}
use Rattle.streamer.proofs.Folding.{fold_blocks}
use Rattle.scan_lang.specs.declared.reply.KnownVoxel.{KnownVoxel}
use Rattle.session.specs.declared.totals.Sums.{Sums}
use Rattle.session.specs.Fold.{known_in, known_voxels}
use Rattle.session.specs.Sums.{added, added_if, nothing, with_known, with_packed_known}

by_option : (s : Sums) (o : Option KnownVoxel) → fold added s (option_to_list o) ≡ added_if s o
by_option s None = refl
by_option s (Some v) = refl

-- the sums of what has come, and of what is still to come
pub summed : (s t : Sums) (more rest left : List KnownVoxel) (all : Sums) → left ≡ more ++ rest → t ≡ fold added s more → fold added s left ≡ all → fold added t rest ≡ all
summed s t more rest left all next is h = ap (λ r. fold added r rest) is ∙ sym (fold-append added s more rest) ∙ ap (fold added s) (sym next) ∙ h

pub summed_if : (s t : Sums) (o : Option KnownVoxel) (rest left : List KnownVoxel) (all : Sums) → left ≡ option_to_list o ++ rest → t ≡ added_if s o → fold added s left ≡ all → fold added t rest ≡ all
summed_if s t o rest left all next is h = summed s t (option_to_list o) rest left all next (is ∙ sym (by_option s o)) h

pub all_summed : (s : Sums) (left : List KnownVoxel) (all : Sums) → left ≡ [] → fold added s left ≡ all → s ≡ all
all_summed s left all none h = ap (fold added s) (sym none) ∙ h

-- ---- the parts of the sums

pub known_of : (s : Sums) (ks : List KnownVoxel) → (fold added s ks).known ≡ s.known + length ks
known_of s [] = sym (add-zero s.known)
known_of s (k ∷ ks) = let rest = known_of (added s k) ks in omega (arith, rest)

pub weight_of : (s : Sums) (ks : List KnownVoxel) → (fold added s ks).weight ≡ s.weight + sum_by (λ v. v.w) ks
weight_of s [] = sym (add-zero s.weight)
weight_of s (k ∷ ks) = let rest = weight_of (added s k) ks in let e = sum_by-cons (λ (v : KnownVoxel). v.w) k ks in omega (arith, rest, e)

pub distance_of : (s : Sums) (ks : List KnownVoxel) → (fold added s ks).distance ≡ fold (λ (a : ℤ) (v : KnownVoxel). a +ℤ v.f) s.distance ks
distance_of s [] = refl
distance_of s (k ∷ ks) = distance_of (added s k) ks

-- ---- the blocks, in any order

added_either : Commutes added
added_either s a b =
    let weight : s.weight + a.w + b.w ≡ s.weight + b.w + a.w = omega arith in
    let distance : s.distance +ℤ a.f +ℤ b.f ≡ s.distance +ℤ b.f +ℤ a.f = omega (arith, ints) in
    λ i. record { known = s.known + 1 + 1; weight = weight i; distance = distance i }

pub known_either : Commutes with_known
known_either s a b = fold_either added added_either s (known_in a.0 a.1) (known_in b.0 b.1)

pub packed_either : Commutes with_packed_known
packed_either s a b = fold_either added added_either s (known_in a.0 (voxels_in a.1)) (known_in b.0 (voxels_in b.1))

-- the sums over all voxels are those over one block after another
by_blocks : (s : Sums) (es : List (BlockKey × List Voxel)) → fold added s (flat_map (λ e. known_in e.0 e.1) es) ≡ fold with_known s es
by_blocks s [] = refl
by_blocks s (e ∷ es) = fold-append added s (known_in e.0 e.1) (flat_map (λ x. known_in x.0 x.1) es) ∙ by_blocks (with_known s e) es

unpacked : (s : Sums) (es : List (BlockKey × List ℕ)) → fold with_packed_known s es ≡ fold with_known s (map (λ e. (e.0, voxels_in e.1)) es)
unpacked s [] = refl
unpacked s (e ∷ es) = unpacked (with_packed_known s e) es

-- the sums over the heap and then over the store are those over the map
pub summed_places : (p : Places) (t : Sums) → IsPlaced p → t ≡ fold with_known nothing (owned_blocks p.heap.cells) → fold with_packed_known t (entries p.store.contents) ≡ fold added nothing (known_voxels (blocks_of p))
summed_places p t placed is =
    ap (λ s. fold with_packed_known s (entries p.store.contents)) is ∙ unpacked _ (entries p.store.contents)
    ∙ sym (fold_blocks with_known known_either nothing p placed) ∙ sym (by_blocks nothing (entries (blocks_of p)))

-- ---- the cells one by one

-- the sums with the block of a cell, if it is owned
abbrev pub with_owner : Sums → Option (BlockKey × List Voxel) → Sums
with_owner s None = s
with_owner s (Some e) = with_known s e

owned_next : (s : Sums) (cells : List Cell) (i : ℕ) → fold with_known s (owned_blocks (drop i cells)) ≡ fold with_known (with_owner s (option_and_then content (slice_get cells i))) (owned_blocks (drop (suc i) cells))
owned_next s [] zero = refl
owned_next s [] (suc i) = refl
owned_next s (Free b ∷ cells) zero = refl
owned_next s (Owned k b ∷ cells) zero = refl
owned_next s (c ∷ cells) (suc i) = owned_next s cells i

-- the sums of the cells that have come, and of those still to come
pub summed_cell : (s t : Sums) (cells : List Cell) (i : ℕ) (o : Option (BlockKey × List Voxel)) (all : Sums) → o ≡ option_and_then content (slice_get cells i) → t ≡ with_owner s o
    → fold with_known s (owned_blocks (drop i cells)) ≡ all → fold with_known t (owned_blocks (drop (i + 1) cells)) ≡ all
summed_cell s t cells i o all is next h =
    let n : i + 1 ≡ suc i = omega arith in
    (λ j. fold with_known ((next ∙ ap (with_owner s) is) j) (owned_blocks (drop (n j) cells))) ∙ sym (owned_next s cells i) ∙ h

pub no_cell : (s : Sums) (cells : List Cell) (i : ℕ) → i ≡ length cells → fold with_known s (owned_blocks (drop i cells)) ≡ s
no_cell s [] zero e = refl
no_cell s [] (suc i) e = refl
no_cell s (c ∷ cells) zero e = absurd (omega arith)
no_cell s (c ∷ cells) (suc i) e = no_cell s cells i (omega arith)

-- ---- the stored blocks one by one

-- the blocks of a store as they come
pub of_store : (s : Sums) (m : FinMap key_cmp (List ℕ)) (es fs : List (BlockKey × List ℕ)) → IsDistinct same_key (keys_of es) → from_entries es ≡ m → fs ≡ es
    → fold with_packed_known s fs ≡ fold with_packed_known s (entries m)
of_store s m es fs apart is same = ap (fold with_packed_known s) same ∙ sym (fold_entries with_packed_known packed_either es s apart) ∙ ap (λ q. fold with_packed_known s (entries q)) is
