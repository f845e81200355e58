-- The grid: there is a voxel at each whole multiple of the voxel size s, and a block has 8 voxels on each axis.
use Rattle.std.specs.Prelude.{ℕ, ℤ, pos, neg_ℤ, ◌+ℤ◌, ◌-ℤ◌, ◌*ℤ◌, ◌&&◌, int_le, Bool, unsigned_abs, Option, None, Some, if◌then◌else◌}
use Rattle.fixed_geom.specs.Division.{floor_div}
use Rattle.fixed_geom.specs.declared.vector.Vec3.{Vec3}
use Rattle.fixed_geom.specs.Vectors.{vec}
use Rattle.voxel_block.specs.declared.key.BlockKey.{BlockKey}
use Rattle.voxel_block.specs.declared.chunk.ChunkKey.{ChunkKey}
use Rattle.voxel_block.specs.Blocks.{offset_of, index_of}

-- the voxel coordinates, in the whole grid, of voxel i of block b: x runs fastest, then y, then z
abbrev pub voxel_coordinates : BlockKey → (i : ℕ) → Vec3
voxel_coordinates b i = vec (pos 8 *ℤ b.x +ℤ pos (offset_of i).x) (pos 8 *ℤ b.y +ℤ pos (offset_of i).y) (pos 8 *ℤ b.z +ℤ pos (offset_of i).z)

-- the world point of voxel i of block b
abbrev pub point_of : (s : ℤ) → BlockKey → (i : ℕ) → Vec3
point_of s b i = vec ((voxel_coordinates b i).x *ℤ s) ((voxel_coordinates b i).y *ℤ s) ((voxel_coordinates b i).z *ℤ s)

-- the centre of block b
abbrev pub centre_of : (s : ℤ) → BlockKey → Vec3
centre_of s b = vec ((pos 8 *ℤ b.x +ℤ pos 4) *ℤ s) ((pos 8 *ℤ b.y +ℤ pos 4) *ℤ s) ((pos 8 *ℤ b.z +ℤ pos 4) *ℤ s)

-- the centre of chunk c, which has 64 voxels on each axis
abbrev pub chunk_centre : (s : ℤ) → ChunkKey → Vec3
chunk_centre s c = vec ((pos 64 *ℤ c.x +ℤ pos 32) *ℤ s) ((pos 64 *ℤ c.y +ℤ pos 32) *ℤ s) ((pos 64 *ℤ c.z +ℤ pos 32) *ℤ s)

-- the block of three coordinates
abbrev pub block : ℤ → ℤ → ℤ → BlockKey
block x y z = record { x = x; y = y; z = z }

-- the block that a point lies in
abbrev pub block_at : (s : ℤ) → Vec3 → BlockKey
block_at s p = block (floor_div p.x (pos 8 *ℤ s)) (floor_div p.y (pos 8 *ℤ s)) (floor_div p.z (pos 8 *ℤ s))

-- the voxel coordinate nearest to a coordinate of a point, the greater one of two
abbrev pub nearest_axis : (s p : ℤ) → ℤ
nearest_axis s p = floor_div (pos 2 *ℤ p +ℤ s) (pos 2 *ℤ s)

-- the voxel coordinates nearest to a point
abbrev pub nearest_voxel : (s : ℤ) → Vec3 → Vec3
nearest_voxel s p = vec (nearest_axis s p.x) (nearest_axis s p.y) (nearest_axis s p.z)

-- the block that has the voxel of these coordinates
abbrev pub block_of_voxel : Vec3 → BlockKey
block_of_voxel c = block (floor_div c.x (pos 8)) (floor_div c.y (pos 8)) (floor_div c.z (pos 8))

-- the offset of a voxel coordinate in its block, from 0 to 7
abbrev pub offset_axis : ℤ → ℕ
offset_axis c = unsigned_abs (c -ℤ pos 8 *ℤ floor_div c (pos 8))

-- the index of that voxel in its block
abbrev pub index_of_voxel : Vec3 → ℕ
index_of_voxel c = index_of (record { x = offset_axis c.x; y = offset_axis c.y; z = offset_axis c.z })

-- ---- keys of 16 bits

abbrev pub fits_key : ℤ → Bool
fits_key z = int_le (neg_ℤ (pos 32768)) z && int_le z (pos 32767)

-- whether each coordinate of a block fits 16 bits
abbrev pub is_key : BlockKey → Bool
is_key b = fits_key b.x && fits_key b.y && fits_key b.z

-- a block, nothing where a coordinate does not fit
abbrev pub as_key : BlockKey → Option BlockKey
as_key b = if is_key b then Some b else None

-- the block that a point lies in, nothing where a coordinate does not fit
abbrev pub key_at : (s : ℤ) → Vec3 → Option BlockKey
key_at s p = as_key (block_at s p)

-- the voxel nearest to a point, by its block and its voxel index, nothing where a coordinate of the block does not fit
abbrev pub nearest : (s : ℤ) → Vec3 → Option (BlockKey × ℕ)
nearest s p = let c = nearest_voxel s p in if is_key (block_of_voxel c) then Some (block_of_voxel c, index_of_voxel c) else None
