-- What is proved of every voxel.
use Rattle.std.specs.Prelude.{◌<◌, pos}
use Rattle.fixed_geom.specs.declared.vector.Vec3.{Vec3}
use Rattle.voxel_block.specs.Parts.{part_of}
use Rattle.camera.specs.Grid.{block_of_voxel, index_of_voxel}
use Rattle.ray_ranges.specs.Cubes.{IsInCube, part_least}

-- each voxel is in one of the 8 parts of its block, which is a cube of 4 voxels a side
abbrev pub VoxelIsInPart : Type 0
VoxelIsInPart = (n : Vec3) → (part_of (index_of_voxel n) < 8) × IsInCube (part_least (block_of_voxel n) (part_of (index_of_voxel n))) (pos 4) n
