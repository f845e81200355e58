-- What holds of each block of a map, and goes on holding while frames are fused into it.
use Rattle.std.proofs.Common.{◌≡◌, ℕ, true, false, cond, List, [], ◌∷◌, length, refl, sym, subst, ◌∙◌}
use Rattle.std.specs.Prelude.{Option, Some, None}
use Rattle.std.specs.Option.{option_map}
use Rattle.std.specs.List.{enumerate_from, fold}
use Rattle.std.specs.FinMap.{contains_key, get, insert, empty, get-empty, get-insert}
use Rattle.std.proofs.lemmas.List.{length-map}
use Rattle.std.proofs.lemmas.List.FromFn.{length-enumerate_from}
use Rattle.voxel_block.specs.declared.key.BlockKey.{BlockKey}
use Rattle.voxel_block.specs.declared.voxel.Voxel.{Voxel}
use Rattle.voxel_block.specs.Blocks.{by_index, new_block}
use Rattle.voxel_block.specs.Keys.{key_cmp, same_key}
use Rattle.voxel_block.proofs.Blocks.{length-new_block}
use Rattle.voxel_block.proofs.KeyLaws.{keys_total}
use Rattle.fuse_kernel.specs.Updates.{updated}
use Rattle.band_walk.specs.Bands.{band}
use Rattle.fusion_core.specs.Frames.{Frame, view}
use Rattle.fusion_core.specs.Maps.{BlockMap, HasWholeBlocks, touched, all_updated, fuse}
use Rattle.fusion_core.proofs.FuseLemmas.{fuse_is}
use Rattle.fusion_core.proofs.UpdatedLemmas.{get_updated}

the_block : (v w : List Voxel) → Some v ≡ Some w → v ≡ w
the_block v w e = cc

module _ (P : List Voxel → Type 0) where
  -- P holds of the voxels of each block
  abbrev pub Each : BlockMap → Type 0
  Each m = (b : BlockKey) (v : List Voxel) → get m b ≡ Some v → P v

  pub each_empty : Each empty
  each_empty b v e = absurd (let z : ◌≡◌ {A = Option (List Voxel)} None (Some v) = sym (get-empty key_cmp b) ∙ e in cc)

  each_put : (m : BlockMap) (b : BlockKey) → P new_block → Each m → Each (insert m b new_block)
  each_put m b new each q v e =
      elim (same_key q b) as (λ t. cond t (Some new_block) (get m q) ≡ Some v → P v) [
        | true ↦ λ h. subst P (the_block new_block v h) new
        | false ↦ λ h. each q v h
      ] (sym (get-insert keys_total m b new_block q) ∙ e)

  each_touched : (m : BlockMap) (b : BlockKey) → P new_block → Each m → Each (touched m b)
  each_touched m b new each = elim (contains_key m b) as (λ t. Each (cond t m (insert m b new_block))) [ true ↦ each | false ↦ each_put m b new each ]

  pub each_all : (m : BlockMap) (ks : List BlockKey) → P new_block → Each m → Each (fold touched m ks)
  each_all m [] new each = each
  each_all m (b ∷ ks) new each = each_all (touched m b) ks new (each_touched m b new each)

  module _ (f : Frame) (keeps : (b : BlockKey) (v : List Voxel) → P v → P (updated (view f) f.max_weight b v)) where
    each_by : (q : BlockKey) (o : Option (List Voxel)) (v : List Voxel) → ((w : List Voxel) → o ≡ Some w → P w) → option_map (updated (view f) f.max_weight q) o ≡ Some v → P v
    each_by q None v each e = absurd (cc)
    each_by q (Some w) v each e = subst P (the_block (updated (view f) f.max_weight q w) v e) (keeps q w (each w refl))

    pub each_updated : (m : BlockMap) → Each m → Each (all_updated f m)
    each_updated m each q v e = each_by q (get m q) v (each q) (sym (get_updated f m q) ∙ e)

    pub each_fused : (m : BlockMap) → P new_block → Each m → Each (fuse m f)
    each_fused m new each = subst Each (fuse_is f m) (each_updated (fold touched m (band (view f))) (each_all m (band (view f)) new each))

-- ---- each block has 512 voxels

same_length : {X : Type 0} (xs : List X) (f : ℕ → X → X) → length (by_index f xs) ≡ length xs
same_length xs f = length-map (enumerate_from 0 xs) (λ p. f p.0 p.1) ∙ length-enumerate_from 0 xs

abbrev Whole : List Voxel → Type 0
Whole v = length v ≡ 512

pub whole_all : (m : BlockMap) (ks : List BlockKey) → HasWholeBlocks m → HasWholeBlocks (fold touched m ks)
whole_all m ks whole = each_all Whole m ks length-new_block whole

pub whole_fused : (f : Frame) (m : BlockMap) → HasWholeBlocks m → HasWholeBlocks (fuse m f)
whole_fused f m whole = each_fused Whole f (λ b v long. same_length v _ ∙ long) m length-new_block whole
