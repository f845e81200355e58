-- Blocks of a map that are updated.
use Rattle.std.specs.Prelude.{◌≡◌, List, if◌then◌else◌}
use Rattle.std.specs.FinMap.{get}
use Rattle.std.specs.List.{list_any}
use Rattle.std.specs.Option.{option_map}
use Rattle.voxel_block.specs.declared.key.BlockKey.{BlockKey}
use Rattle.voxel_block.specs.Keys.{same_key}
use Rattle.fuse_kernel.specs.Updates.{updated}
use Rattle.fusion_core.specs.Frames.{Frame, view}
use Rattle.fusion_core.specs.Maps.{BlockMap}

-- a map has the blocks of another, those of these keys with every voxel updated
abbrev pub UpdatesEach : Frame → List BlockKey → BlockMap → BlockMap → Type 0
UpdatesEach f ks m n = (b : BlockKey) → get n b ≡ (if list_any (same_key b) ks then option_map (updated (view f) f.max_weight b) (get m b) else get m b)
