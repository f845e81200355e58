-- What is proved of every frame and of every map.
use Rattle.std.specs.Prelude.{◌≡◌, ◌↔◌, ℕ, ℤ, IsTrue, List, None, Some}
use Rattle.std.specs.List.{fold}
use Rattle.std.specs.FinMap.{empty, get, contains_key}
use Rattle.voxel_block.specs.declared.key.BlockKey.{BlockKey}
use Rattle.voxel_block.specs.declared.voxel.Voxel.{Voxel}
use Rattle.camera.specs.Visibility.{IsInReach}
use Rattle.fuse_kernel.specs.Updates.{HasWeightsWithin}
use Rattle.band_walk.specs.Bands.{band}
use Rattle.fusion_core.specs.declared.settings.Settings.{Settings}
use Rattle.fusion_core.specs.Frames.{Frame, IsFrame, view}
use Rattle.fusion_core.specs.Maps.{BlockMap, HasWholeBlocks, all_updated, fuse, touched}
use Rattle.fusion_core.specs.Fold.{State, fused, start}

-- to touch the blocks of a frame's band and then to update every block is to fuse the frame
abbrev pub TouchedThenUpdated : Type 0
TouchedThenUpdated = (f : Frame) (m : BlockMap) → all_updated f (fold touched m (band (view f))) ≡ fuse m f

-- each voxel of a map weighs at most n
abbrev pub HasMapWeightsWithin : (n : ℕ) → BlockMap → Type 0
HasMapWeightsWithin n m = (b : BlockKey) (voxels : List Voxel) → get m b ≡ Some voxels → HasWeightsWithin n voxels

-- 8 s times each coordinate of a known key is at most 2^30 either way
abbrev pub HasKeysInReach : (s : ℤ) → BlockMap → Type 0
HasKeysInReach s m = (b : BlockKey) → IsTrue (contains_key m b) → IsInReach s b

-- what holds of the state after any number of frames
pub record IsSound (c : Settings) (s : State) : Type 0 where
  -- each block has 512 voxels
  pub whole : HasWholeBlocks s.blocks
  pub weights : HasMapWeightsWithin c.max_weight s.blocks
  pub reach : HasKeysInReach c.camera.voxel s.blocks
  -- before the first frame the map is empty, and no frame was counted
  pub empty : s.last ≡ None → s.blocks ≡ empty
  pub frames : (s.frames ≡ 0) ↔ (s.last ≡ None)

abbrev pub StartIsSound : Type 0
StartIsSound = (c : Settings) → IsSound c start

-- a frame that is fused into a sound state leaves a sound one
abbrev pub FusedStaysSound : Type 0
FusedStaysSound = (c : Settings) (s : State) (f : Frame) → IsFrame f → f.camera ≡ c.camera → f.max_weight ≡ c.max_weight → IsSound c s → IsSound c (fused s f)
