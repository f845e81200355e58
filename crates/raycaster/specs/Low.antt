-- Ranges of points, by the low voxels of blocks.
use Rattle.std.specs.Prelude.{◌≡◌, ℕ, List}
use Rattle.fixed_geom.specs.Poses.{Pose}
use Rattle.voxel_block.specs.declared.key.BlockKey.{BlockKey}
use Rattle.voxel_block.specs.declared.voxel.Voxel.{Voxel}
use Rattle.voxel_block.specs.Parts.{IsLow}
use Rattle.camera.specs.declared.camera.CameraFields.{CameraFields}
use Rattle.camera.specs.Grid.{block_of_voxel, index_of_voxel}
use Rattle.ray_walk.specs.Points.{point_depth, voxel_at}
use Rattle.ray_ranges.specs.Cubes.{IsEnd}
use Rattle.ray_ranges.specs.Tables.{Table, RangesHave}

-- the ranges are for the same camera and pose as before, and have each point that they had
pub record IsWider (old new : Table) : Type 0 where
  pub camera : new.camera ≡ old.camera
  pub pose : new.pose ≡ old.pose
  pub kept : (u v j : ℕ) → RangesHave old u v j → RangesHave new u v j

-- the ranges have each point at which a hit may end and whose nearest voxel is a low one of this block
pub record HaveBlock (k : CameraFields) (m : Pose) (r : Table) (b : BlockKey) (voxels : List Voxel) : Type 0 where
  pub has : (u v j : ℕ) → IsEnd k u v j → block_of_voxel (voxel_at k m u v (point_depth k j)) ≡ b → IsLow voxels (index_of_voxel (voxel_at k m u v (point_depth k j))) → RangesHave r u v j
