-- The blocks of a pixel's segment, and what is added for them.
use Rattle.std.proofs.Common.{◌≡◌, ◌∙◌, ℕ, suc, ◌+◌, ◌⊎◌, inl, inr, List, [], ◌∷◌, map, sym, ap, subst, arith}
use Rattle.std.specs.Prelude.{ℤ, Contains}
use Rattle.std.specs.List.{range_with_len, flat_map}
use Rattle.voxel_block.specs.declared.key.BlockKey.{BlockKey}
use Rattle.camera.specs.Grid.{block_at}
use Rattle.depth_view.specs.Views.{View}
use Rattle.band_walk.specs.Bands.{segment_blocks, segment_end, segment_point, segment_start, steps_of}
use Rattle.band_walk.specs.Memos.{HasAdded}
use Rattle.band_walk.specs.Remaining.{segment_blocks_of}
use Rattle.band_walk.specs.declared.segment.Segment.{Segment}
use Rattle.band_walk.specs.declared.side.BlockSide.{BlockSide}
use Rattle.band_walk.proofs.MemoLemmas.{added_more}
use Rattle.band_walk.proofs.WalkLemmas.{flat_map_one_more, map_one_more}

-- the blocks of the segment that is made for a pixel
pub pixel_is : (w : View) (side : BlockSide) (s : Segment) (u v : ℕ) (d : ℤ) → side.voxel ≡ w.camera.voxel → s.start ≡ segment_start w u v d → s.end ≡ segment_end w u v d → s.n ≡ steps_of side.voxel s.start s.end
    → segment_blocks_of side s ≡ segment_blocks w.camera.voxel (segment_start w u v d) (segment_end w u v d)
pixel_is w side s u v d size start end steps =
    let n : s.n ≡ steps_of w.camera.voxel (segment_start w u v d) (segment_end w u v d) = steps ∙ (λ i. steps_of (size i) (start i) (end i)) in
    λ i. map (λ j. block_at (size i) (segment_point (start i) (end i) (n i) j)) (range_with_len 0 (n i + 1))

-- ---- one more

pub sample_more : (f : ℕ → BlockKey) (n : ℕ) (key : BlockKey) (m m' m'' : List ℕ) (k k' k'' : List BlockKey) → HasAdded (map f (range_with_len 0 n)) m k m' k' → key ≡ f n → HasAdded (key ∷ []) m' k' m'' k'' → HasAdded (map f (range_with_len 0 (n + 1))) m k m'' k''
sample_more f n key m m' m'' k k' k'' before is one =
    subst (λ bs. HasAdded bs m k m'' k'') (sym (map_one_more f n))
    (added_more (map f (range_with_len 0 n)) (f n ∷ []) m m' m'' k k' k'' before (subst (λ b. HasAdded (b ∷ []) m' k' m'' k'') is one))

pub pixel_more : (f : ℕ → List BlockKey) (n : ℕ) (m m' m'' : List ℕ) (k k' k'' : List BlockKey) → HasAdded (flat_map f (range_with_len 0 n)) m k m' k' → HasAdded (f n) m' k' m'' k'' → HasAdded (flat_map f (range_with_len 0 (n + 1))) m k m'' k''
pixel_more f n m m' m'' k k' k'' before one =
    subst (λ bs. HasAdded bs m k m'' k'') (sym (ap (λ i. flat_map f (range_with_len 0 i)) (the_next n) ∙ flat_map_one_more f n))
    (added_more (flat_map f (range_with_len 0 n)) (f n) m m' m'' k k' k'' before one)
  where
    the_next : (n : ℕ) → n + 1 ≡ suc n
    the_next n = omega arith

-- ---- from no keys on

pub only_new : (blocks : List BlockKey) (b : BlockKey) → Contains [] b ⊎ Contains blocks b → Contains blocks b
only_new blocks b (inl none) = absurd (omega (arith, none.1))
only_new blocks b (inr c) = c
