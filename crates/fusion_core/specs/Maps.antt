-- A map: blocks by their keys, without bound, and how a frame is fused into it.
use Rattle.std.specs.Prelude.{◌≡◌, ℕ, if◌then◌else◌, List, ◌++◌, map, length, Some, unwrap_or}
use Rattle.std.specs.FinMap.{FinMap, get, keys, contains_key, insert, from_entries}
use Rattle.std.specs.List.{count_by}
use Rattle.voxel_block.specs.declared.key.BlockKey.{BlockKey}
use Rattle.voxel_block.specs.declared.voxel.Voxel.{Voxel}
use Rattle.voxel_block.specs.Keys.{key_cmp}
use Rattle.voxel_block.specs.Blocks.{new_block}
use Rattle.fuse_kernel.specs.Updates.{updated}
use Rattle.band_walk.specs.Bands.{band}
use Rattle.fusion_core.specs.Frames.{Frame, is_active, view}

-- from keys, in their order, to the 512 voxels of a block
abbrev pub BlockMap : Type 0
BlockMap = FinMap key_cmp (List Voxel)

-- each block of a map has 512 voxels
abbrev pub HasWholeBlocks : BlockMap → Type 0
HasWholeBlocks m = (b : BlockKey) (v : List Voxel) → get m b ≡ Some v → length v ≡ 512

-- the voxels of a block, new ones where the map lacks it
abbrev pub voxels_at : BlockMap → BlockKey → List Voxel
voxels_at m b = unwrap_or (get m b) new_block

-- the map once a frame is fused into it: it has the blocks of the map and those of the band, and every voxel of each is updated
unfoldable pub fuse : BlockMap → Frame → BlockMap
fuse m f = from_entries (map (λ b. (b, updated (view f) f.max_weight b (voxels_at m b))) (keys m ++ band (view f)))

-- how many blocks of the map are active for a frame
abbrev pub active_count : Frame → BlockMap → ℕ
active_count f m = count_by (is_active f) (keys m)

-- how many blocks of a map and of a frame's band, taken together and each once, are active for it
abbrev pub need : BlockMap → Frame → ℕ
need m f = active_count f (fuse m f)

-- ---- the two steps of a fusion, for those who fuse by them

-- the map with a new block at a key that it lacks
abbrev pub touched : BlockMap → BlockKey → BlockMap
touched m b = if contains_key m b then m else insert m b new_block

-- the map with every voxel of every block updated
unfoldable pub all_updated : Frame → BlockMap → BlockMap
all_updated f m = from_entries (map (λ b. (b, updated (view f) f.max_weight b (voxels_at m b))) (keys m))
