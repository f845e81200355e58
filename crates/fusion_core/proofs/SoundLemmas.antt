-- What holds of the state that frames leave.
use Rattle.std.proofs.Common.{◌≡◌, ℕ, ◌+◌, ◌≤◌, true, false, ◌||◌, refl, sym, ap, subst, ◌∙◌, arith, ◌⊎◌, inl, inr}
use Rattle.std.specs.Prelude.{Some, None, is_some}
use Rattle.std.specs.List.{list_any, fold}
use Rattle.std.specs.FinMap.{contains_key, get-empty}
use Rattle.std.proofs.lemmas.Bool.{or_cases}
use Rattle.std.proofs.lemmas.List.Elements.{All-replicate}
use Rattle.std.proofs.lemmas.Map.Views.{Contains-from_any}
use Rattle.fixed_geom.specs.Poses.{Pose}
use Rattle.voxel_block.specs.declared.key.BlockKey.{BlockKey}
use Rattle.voxel_block.specs.Keys.{key_cmp, same_key}
use Rattle.voxel_block.specs.Blocks.{new_block}
use Rattle.voxel_block.specs.Voxels.{new_voxel}
use Rattle.voxel_block.proofs.KeyLaws.{same_key_is}
use Rattle.camera.specs.declared.camera.CameraFields.{CameraFields}
use Rattle.scan_io.specs.Reading.{saturated}
use Rattle.camera.specs.Visibility.{IsInReach}
use Rattle.band_walk.specs.Bands.{band}
use Rattle.band_walk.proofs.BandSet.{band_block_is_active, from_band}
use Rattle.fuse_kernel.specs.Updates.{HasWeightsWithin}
use Rattle.fuse_kernel.proofs.LawLemmas.{weights_stay_bounded}
use Rattle.fusion_core.specs.declared.settings.Settings.{Settings}
use Rattle.fusion_core.specs.Frames.{Frame, IsFrame, view}
use Rattle.fusion_core.specs.Maps.{BlockMap, fuse, touched}
use Rattle.fusion_core.specs.Fold.{State, start, fused}
use Rattle.fusion_core.specs.Laws.{HasKeysInReach, HasMapWeightsWithin, IsSound}
use Rattle.fusion_core.proofs.EachLemmas.{each_empty, each_fused, whole_fused}
use Rattle.fusion_core.proofs.FuseLemmas.{fuse_is}
use Rattle.fusion_core.proofs.TouchLemmas.{has_all}
use Rattle.fusion_core.proofs.UpdatedLemmas.{has_updated}

-- ---- weights

new_weights : (n : ℕ) → HasWeightsWithin n new_block
new_weights n = All-replicate (λ x. x.w ≤ n) 512 new_voxel (omega arith)

-- ---- keys

-- the fused map has the keys of the map and those of the band
has_fused : (f : Frame) (m : BlockMap) (q : BlockKey) → contains_key (fuse m f) q ≡ (contains_key m q || list_any (same_key q) (band (view f)))
has_fused f m q = ap (λ n. contains_key n q) (sym (fuse_is f m)) ∙ has_updated f (fold touched m (band (view f))) q ∙ has_all m (band (view f)) q

reach_fused : (f : Frame) (m : BlockMap) → IsFrame f → HasKeysInReach f.camera.voxel m → HasKeysInReach f.camera.voxel (fuse m f)
reach_fused f m frame reach q h = by (or_cases (contains_key m q) (list_any (same_key q) (band (view f))) (sym (has_fused f m q) ∙ h))
  where
    by : (contains_key m q ≡ true) ⊎ (list_any (same_key q) (band (view f)) ≡ true) → IsInReach f.camera.voxel q
    by (inl known) = reach q known
    by (inr banded) = (band_block_is_active (view f) q frame.shown (from_band (view f) q (Contains-from_any same_key_is q (band (view f)) banded))).3

-- ---- the state

pub start_is_sound : (c : Settings) → IsSound c start
start_is_sound c = record {
  whole = each_empty _;
  weights = each_empty (HasWeightsWithin c.max_weight);
  reach = λ b h. absurd (let z : false ≡ true = ap is_some (sym (get-empty key_cmp b)) ∙ h in cc);
  empty = λ e. refl;
  frames = (λ e. refl, λ e. refl);
}

some_frame : (n : ℕ) → saturated (n + 1) ≡ 0 → ⊥
some_frame n e = omega arith

some_last : (p : Pose) → Some p ≡ None → ⊥
some_last p e = cc

pub fused_stays_sound : (c : Settings) (s : State) (f : Frame) → IsFrame f → f.camera ≡ c.camera → f.max_weight ≡ c.max_weight → IsSound c s → IsSound c (fused s f)
fused_stays_sound c s f frame camera weight sound = record {
  whole = whole_fused f s.blocks sound.whole;
  weights = subst (λ n. HasMapWeightsWithin n (fuse s.blocks f)) weight (each_fused (HasWeightsWithin f.max_weight) f (λ b v h. weights_stay_bounded (view f) f.max_weight b v h) s.blocks (new_weights f.max_weight) (subst (λ n. HasMapWeightsWithin n s.blocks) (sym weight) sound.weights));
  reach = subst (λ (k : CameraFields). HasKeysInReach k.voxel (fuse s.blocks f)) camera (reach_fused f s.blocks frame (subst (λ (k : CameraFields). HasKeysInReach k.voxel s.blocks) (sym camera) sound.reach));
  empty = λ e. absurd (some_last f.pose e);
  frames = (λ e. absurd (some_frame s.frames e), λ e. absurd (some_last f.pose e));
}
