-- A map with every voxel of every block updated.
use Rattle.std.proofs.Common.{◌≡◌, cond, List, refl, sym, ap, ◌∙◌}
use Rattle.std.specs.Prelude.{Option, Some, None, is_some}
use Rattle.std.specs.Option.{option_map}
use Rattle.std.specs.FinMap.{get, keys, contains_key, contains_key-keys}
use Rattle.voxel_block.specs.declared.key.BlockKey.{BlockKey}
use Rattle.voxel_block.specs.declared.voxel.Voxel.{Voxel}
use Rattle.voxel_block.specs.Blocks.{new_block}
use Rattle.fuse_kernel.specs.Updates.{updated}
use Rattle.fusion_core.specs.Frames.{Frame, view}
use Rattle.fusion_core.specs.Maps.{BlockMap, voxels_at, all_updated}
use Rattle.fusion_core.proofs.MapLemmas.{get-pairs_of, by_default}

-- what it has at a key
pub get_updated : (f : Frame) (m : BlockMap) (q : BlockKey) → get (all_updated f m) q ≡ option_map (updated (view f) f.max_weight q) (get m q)
unfolding all_updated
get_updated f m q =
    get-pairs_of (λ b. updated (view f) f.max_weight b (voxels_at m b)) (keys m) q ∙ ap (λ b. cond b (Some (updated (view f) f.max_weight q (voxels_at m q))) None) (sym (contains_key-keys m q))
    ∙ sym (by_default (updated (view f) f.max_weight q) new_block (get m q))

still_some : (f : Frame) (q : BlockKey) (o : Option (List Voxel)) → is_some (option_map (updated (view f) f.max_weight q) o) ≡ is_some o
still_some f q None = refl
still_some f q (Some v) = refl

-- it has the same keys
pub has_updated : (f : Frame) (m : BlockMap) (q : BlockKey) → contains_key (all_updated f m) q ≡ contains_key m q
has_updated f m q = ap is_some (get_updated f m q) ∙ still_some f q (get m q)
