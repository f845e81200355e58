-- What remains of the parts of a walk.
use Rattle.std.specs.Prelude.{ℕ, ◌+◌, ◌-◌, ◌≡◌, ◌<◌, ◌≤◌, Bool, false, if◌then◌else◌, Option, None, Some, List, [], ◌∷◌, ◌++◌, map, MatchOption}
use Rattle.std.specs.List.{range_with_len, flat_map}
use Rattle.voxel_block.specs.declared.key.BlockKey.{BlockKey}
use Rattle.voxel_block.specs.Keys.{same_key}
use Rattle.camera.specs.Grid.{block_at}
use Rattle.band_walk.specs.BandViews.{view_of_band}
use Rattle.band_walk.specs.Bands.{segment_point, pixel_blocks}
use Rattle.band_walk.specs.declared.blocks.RowBlocks.{RowBlocks}
use Rattle.band_walk.specs.declared.samples.Samples.{Samples}
use Rattle.band_walk.specs.declared.segment.Segment.{Segment}
use Rattle.band_walk.specs.declared.side.BlockSide.{BlockSide}

-- ---- a segment

-- the block of its sample j
abbrev pub sample_block : BlockSide → Segment → ℕ → BlockKey
sample_block side s j = block_at side.voxel (segment_point s.start s.end s.n j)

-- the blocks of its samples
abbrev pub segment_blocks_of : BlockSide → Segment → List BlockKey
segment_blocks_of side s = map (sample_block side s) (range_with_len 0 (s.n + 1))

-- the blocks of the remaining samples
abbrev pub sample_blocks_from : Samples → List BlockKey
sample_blocks_from s = map (sample_block s.side s.segment) (range_with_len s.j (s.segment.n + 1 - s.j))

-- the next sample is at most one past the end
pub record IsSamples (s : Samples) : Type 0 where
  pub j : s.j ≤ s.segment.n + 1

-- ---- a row

-- the blocks of the pixels of a row from column u on
abbrev pub row_blocks_from : RowBlocks → (u : ℕ) → List BlockKey
row_blocks_from b u = flat_map (λ k. pixel_blocks (view_of_band b.band.now) k b.v) (range_with_len u (b.band.now.frame.now.width - u))

-- the blocks of the samples, and those of the pixels from u on
abbrev pub remaining_blocks : RowBlocks → List BlockKey
remaining_blocks b = sample_blocks_from b.samples ++ row_blocks_from b b.u

-- the row is one of the frame's, the samples are in order, and u is not past the row's end
pub record IsRowBlocks (b : RowBlocks) : Type 0 where
  pub row : b.v < b.band.now.frame.now.height
  pub samples : IsSamples b.samples
  pub u : b.u ≤ b.band.now.frame.now.width

-- ---- keys

-- whether a key is the one given last, if one was
abbrev pub is_last : Option BlockKey → BlockKey → Bool
is_last None key = false
is_last (Some last) key = same_key key last

-- the keys of blocks after the key given last, without those that are equal to the one just before
abbrev pub keys_after : Option BlockKey → List BlockKey → List BlockKey
keys_after last [] = []
keys_after last (b ∷ bs) = if is_last last b then keys_after last bs else b ∷ keys_after (Some b) bs

-- what a search for the next key found, and what remains
abbrev pub GivesKey : (last : Option BlockKey) → (old : RowBlocks) → (found : Option BlockKey) → (new : RowBlocks) → Type 0
GivesKey last old found new = MatchOption found ((keys_after last (remaining_blocks old) ≡ []) × (remaining_blocks new ≡ [])) (λ k. keys_after last (remaining_blocks old) ≡ k ∷ keys_after (Some k) (remaining_blocks new))
