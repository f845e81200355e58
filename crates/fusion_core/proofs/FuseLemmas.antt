-- To touch the blocks of a frame's band, and then to update every block, is to fuse the frame.
use Rattle.std.proofs.Common.{◌≡◌, T, ◌&&◌, ◌||◌, List, [], ◌∷◌, ◌++◌, map, refl, sym, ap, subst, ◌∙◌}
use Rattle.std.specs.List.{list_any, fold, count_by}
use Rattle.std.specs.FinMap.{FinMap, keys, entries, entries_sorted, from_entries, is_sorted, same_map, get-from_entries, get-from_sorted, entries-from_sorted, contains_key-keys}
use Rattle.std.specs.FinMap.Entries.{below_all}
use Rattle.std.specs.Ordering.{is_lt}
use Rattle.std.proofs.lemmas.List.Folds.{list_any-append}
use Rattle.voxel_block.specs.declared.key.BlockKey.{BlockKey}
use Rattle.voxel_block.specs.Keys.{key_cmp, same_key}
use Rattle.voxel_block.proofs.KeyLaws.{exact_keys, keys_total}
use Rattle.fuse_kernel.specs.Updates.{updated}
use Rattle.band_walk.specs.Bands.{band}
use Rattle.fusion_core.specs.Frames.{Frame, is_active, view}
use Rattle.fusion_core.specs.Maps.{BlockMap, voxels_at, fuse, need, active_count, touched, all_updated}
use Rattle.fusion_core.proofs.MapLemmas.{pairs_of, same_pairs}
use Rattle.fusion_core.proofs.TouchLemmas.{has_all, at_all}

keys_all : (m : BlockMap) (ks : List BlockKey) (q : BlockKey) → list_any (same_key q) (keys (fold touched m ks)) ≡ list_any (same_key q) (keys m ++ ks)
keys_all m ks q = sym (contains_key-keys (fold touched m ks) q) ∙ has_all m ks q ∙ ap (λ t. t || list_any (same_key q) ks) (contains_key-keys m q)
    ∙ sym (list_any-append (same_key q) (keys m) ks)

-- to touch blocks and then to update all: the map has its own blocks and these, and each is updated
pub all_updated-touched : (f : Frame) (m : BlockMap) (ks : List BlockKey) → all_updated f (fold touched m ks) ≡ from_entries (map (λ b. (b, updated (view f) f.max_weight b (voxels_at m b))) (keys m ++ ks))
unfolding all_updated
all_updated-touched f m ks = same_pairs _ _ (keys (fold touched m ks)) (keys m ++ ks) (keys_all m ks) (λ q. ap (updated (view f) f.max_weight q) (at_all m ks q))

pub fuse_is : (f : Frame) (m : BlockMap) → all_updated f (fold touched m (band (view f))) ≡ fuse m f
unfolding fuse
fuse_is f m = all_updated-touched f m (band (view f))

-- ---- the keys

-- entries whose keys are those of a map are in order, as its own are
below_pairs : {X Y : Type 0} (g : BlockKey → Y) (x : BlockKey) (es : List (BlockKey × X)) → below_all key_cmp x (pairs_of g (map (λ e. e.0) es)) ≡ below_all key_cmp x es
below_pairs g x [] = refl
below_pairs g x (e ∷ es) = ap (λ t. is_lt (key_cmp x e.0) && t) (below_pairs g x es)

pub sorted_pairs : {X Y : Type 0} (g : BlockKey → Y) (es : List (BlockKey × X)) → is_sorted key_cmp (pairs_of g (map (λ e. e.0) es)) ≡ is_sorted key_cmp es
sorted_pairs g [] = refl
sorted_pairs g (e ∷ es) = λ i. below_pairs g e.0 es i && sorted_pairs g es i

keys_of_pairs : {Y : Type 0} (g : BlockKey → Y) (ks : List BlockKey) → map (λ e. e.0) (pairs_of g ks) ≡ ks
keys_of_pairs g [] = refl
keys_of_pairs g (k ∷ ks) = ap (λ ls. k ∷ ls) (keys_of_pairs g ks)

pub entries_of_sorted : {X : Type 0} (es : List (BlockKey × X)) → T (is_sorted key_cmp es) → entries (from_entries {R = key_cmp} es) ≡ es
entries_of_sorted es h = ap entries (same_map keys_total exact_keys _ _ (λ q. get-from_entries keys_total es q ∙ sym (get-from_sorted key_cmp es q h))) ∙ entries-from_sorted key_cmp es h

-- a map by a rule has the keys that it was made of
keys_by_rule : {X Y : Type 0} (g : BlockKey → Y) (m : FinMap key_cmp X) → keys (from_entries {R = key_cmp} (pairs_of g (keys m))) ≡ keys m
keys_by_rule g m = ap (λ es. map (λ e. e.0) es) (entries_of_sorted (pairs_of g (keys m)) (subst T (sym (sorted_pairs g (entries m))) (entries_sorted m))) ∙ keys_of_pairs g (keys m)

keys_updated : (f : Frame) (m : BlockMap) → keys (all_updated f m) ≡ keys m
unfolding all_updated
keys_updated f m = keys_by_rule (λ b. updated (view f) f.max_weight b (voxels_at m b)) m

-- the blocks that the fused map has are there once the band is touched
pub need_is : (f : Frame) (m : BlockMap) → active_count f (fold touched m (band (view f))) ≡ need m f
need_is f m = ap (count_by (is_active f)) (sym (keys_updated f (fold touched m (band (view f)))) ∙ ap keys (fuse_is f m))
