-- The raised coordinates of voxels.
use Rattle.std.specs.Prelude.{ℕ, ◌≡◌, ◌/◌, ◌%◌, ℤ, pos, ◌+ℤ◌, ◌-ℤ◌, ◌*ℤ◌}
use Rattle.fixed_geom.specs.declared.vector.Vec3.{Vec3}
use Rattle.voxel_block.specs.declared.key.BlockKey.{BlockKey}
use Rattle.voxel_block.specs.Blocks.{index_of}
use Rattle.camera.specs.Grid.{block}
use Rattle.ray_walk.specs.declared.voxels.RaisedVoxel.{RaisedVoxel}

-- the coordinates n of a voxel, raised by some blocks
pub record IsRaised (blocks : ℤ) (n : Vec3) (r : RaisedVoxel) : Type 0 where
  pub x : pos r.x ≡ n.x +ℤ pos 8 *ℤ blocks
  pub y : pos r.y ≡ n.y +ℤ pos 8 *ℤ blocks
  pub z : pos r.z ≡ n.z +ℤ pos 8 *ℤ blocks

-- the block of the voxel
abbrev pub raised_block : (blocks : ℤ) → RaisedVoxel → BlockKey
raised_block blocks r = block (pos (r.x / 8) -ℤ blocks) (pos (r.y / 8) -ℤ blocks) (pos (r.z / 8) -ℤ blocks)

-- its index in the block
abbrev pub raised_index : RaisedVoxel → ℕ
raised_index r = index_of (record { x = r.x % 8; y = r.y % 8; z = r.z % 8 })
