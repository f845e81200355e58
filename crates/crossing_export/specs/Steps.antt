-- What the code of the crossings and of their file rests on.
use Rattle.std.specs.Prelude.{◌≡◌, List, ◌++◌}
use Rattle.std.specs.FinMap.{FinMap}
use Rattle.std.specs.Option.{option_copied}
use Rattle.voxel_block.specs.declared.voxel.Voxel.{Voxel}
use Rattle.voxel_block.specs.Keys.{key_cmp}
use Rattle.crossing_export.specs.declared.around.Around.{Around}
use Rattle.crossing_export.specs.Crossings.{IsAround}

-- a map has a block and those next to it
abbrev pub HasAround : FinMap key_cmp (List Voxel) → Around → Type 0
HasAround m a = IsAround m a.key a.here.now (option_copied a.x) (option_copied a.y) (option_copied a.z)

-- P holds of each map that has them
abbrev pub InEachMap : Around → (FinMap key_cmp (List Voxel) → Type 0) → Type 0
InEachMap a P = (m : FinMap key_cmp (List Voxel)) → HasAround m a → P m

-- a list begins with an older one
pub record IsGrown {A : Type 0} (old new : List A) : Type 0 where
  pub more : List A
  pub is : new ≡ old ++ more
