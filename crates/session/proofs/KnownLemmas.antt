-- The known voxels of a block and of a map that are still to come.
use Rattle.std.proofs.Common.{◌≡◌, ℕ, zero, suc, ◌+◌, List, [], ◌∷◌, ◌++◌, length, drop, refl, sym, ap, ◌∙◌, arith, append_assoc, append-nil}
use Rattle.std.specs.Prelude.{Option, Some, None, slice_get, option_to_list}
use Rattle.std.specs.List.{flat_map, filter_map, enumerate_from, cons_option}
use Rattle.voxel_block.specs.declared.key.BlockKey.{BlockKey}
use Rattle.voxel_block.specs.declared.voxel.Voxel.{Voxel}
use Rattle.scan_lang.specs.declared.reply.KnownVoxel.{KnownVoxel}
use Rattle.std.specs.FinMap.{get, keys, entries}
use Rattle.session.specs.Fold.{known_at, known_in, known_voxels}
use Rattle.fusion_core.specs.Maps.{BlockMap}
use Rattle.session.specs.Sums.{known_among, known_in_option}
use Rattle.fusion_core.proofs.KeyLemmas.{entries_by_keys, marked}
use Rattle.fusion_core.proofs.MapLemmas.{pairs_of}

drop_at : {X : Type 0} (xs : List X) (i : ℕ) (x : X) → slice_get xs i ≡ Some x → drop i xs ≡ x ∷ drop (suc i) xs
drop_at [] i x is = absurd (cc)
drop_at (y ∷ xs) zero x is = let e : y ≡ x = cc in ap (λ z. z ∷ xs) e
drop_at (y ∷ xs) (suc i) x is = drop_at xs i x is

drop_all : {X : Type 0} (xs : List X) (n : ℕ) → length xs ≡ n → drop n xs ≡ []
drop_all [] zero e = refl
drop_all [] (suc n) e = refl
drop_all (x ∷ xs) zero e = absurd (omega arith)
drop_all (x ∷ xs) (suc n) e = drop_all xs n (omega arith)

-- the known ones of voxels whose first has the index n
abbrev pub known_from : BlockKey → (n : ℕ) → List Voxel → List KnownVoxel
known_from b n voxels = filter_map (λ e. known_at b e.0 e.1) (enumerate_from n voxels)

-- the known voxels of a block from index i on
abbrev pub left_in : BlockKey → List Voxel → (i : ℕ) → List KnownVoxel
left_in b voxels i = known_from b i (drop i voxels)

one_more : {X : Type 0} (o : Option X) (xs : List X) → cons_option o xs ≡ option_to_list o ++ xs
one_more None xs = refl
one_more (Some x) xs = refl

pub left_next : (b : BlockKey) (voxels : List Voxel) (i : ℕ) (v : Voxel) → slice_get voxels i ≡ Some v → left_in b voxels i ≡ option_to_list (known_at b i v) ++ left_in b voxels (i + 1)
left_next b voxels i v is =
    let e : suc i ≡ i + 1 = omega arith in
    ap (known_from b i) (drop_at voxels i v is ∙ ap (λ n. v ∷ drop n voxels) e) ∙ one_more (known_at b i v) (left_in b voxels (i + 1))

pub left_none : (b : BlockKey) (voxels : List Voxel) (i : ℕ) → i ≡ 512 → length voxels ≡ 512 → left_in b voxels i ≡ []
left_none b voxels i e long = ap (known_from b i) (drop_all voxels i (long ∙ sym e))

-- ---- the blocks that are still to come

of_pairs : (m : BlockMap) (ks : List BlockKey) → known_among m ks ≡ flat_map (λ p. known_in_option p.0 p.1) (pairs_of (get m) ks)
of_pairs m [] = refl
of_pairs m (k ∷ ks) = ap (λ xs. known_in_option k (get m k) ++ xs) (of_pairs m ks)

of_entries : (es : List (BlockKey × List Voxel)) → flat_map (λ p. known_in_option p.0 p.1) (marked es) ≡ flat_map (λ e. known_in e.0 e.1) es
of_entries [] = refl
of_entries (e ∷ es) = ap (λ xs. known_in e.0 e.1 ++ xs) (of_entries es)

-- those at all its keys are all of the map
pub known_by_keys : (m : BlockMap) → known_among m (keys m) ≡ known_voxels m
known_by_keys m = of_pairs m (keys m) ∙ ap (flat_map (λ p. known_in_option p.0 p.1)) (entries_by_keys m) ∙ of_entries (entries m)

-- ---- a list of what has come

pub pushed : {X : Type 0} (out new more rest left all : List X) → left ≡ more ++ rest → new ≡ out ++ more → out ++ left ≡ all → new ++ rest ≡ all
pushed out new more rest left all next is h = ap (λ o. o ++ rest) is ∙ append_assoc out more rest ∙ ap (λ xs. out ++ xs) (sym next) ∙ h

pub all_pushed : {X : Type 0} (out left all : List X) → left ≡ [] → out ++ left ≡ all → out ≡ all
all_pushed out left all none h = sym (append-nil out) ∙ ap (λ xs. out ++ xs) (sym none) ∙ h
