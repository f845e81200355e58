-- The known values of a map, by the voxel coordinates of the whole grid.
use Rattle.std.specs.Prelude.{ℕ, ℤ, Option, None, Some, List, slice_get}
use Rattle.std.specs.FinMap.{FinMap, get}
use Rattle.std.specs.Option.{option_and_then}
use Rattle.fixed_geom.specs.declared.vector.Vec3.{Vec3}
use Rattle.voxel_block.specs.declared.voxel.Voxel.{Voxel}
use Rattle.voxel_block.specs.Keys.{key_cmp}
use Rattle.voxel_block.specs.Voxels.{known_value}
use Rattle.camera.specs.Grid.{block_of_voxel, index_of_voxel}

-- the known value of the voxel of index i of a block, if there is a block
abbrev pub value_in : Option (List Voxel) → (i : ℕ) → Option ℤ
value_in None i = None
value_in (Some voxels) i = option_and_then known_value (slice_get voxels i)

-- the known value of the voxel with these coordinates in the whole grid; none is known where the map lacks its block
abbrev pub value_of : FinMap key_cmp (List Voxel) → Vec3 → Option ℤ
value_of m c = value_in (get m (block_of_voxel c)) (index_of_voxel c)
