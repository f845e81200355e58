use Rattle.std.proofs.Common.{refl}
use Rattle.voxel_block.specs.Parts.{part_of}
use Rattle.voxel_block.proofs.PartLemmas.{parts_low}
use Rattle.voxel_block.proofs.block.Block.low_parts.Goals as goal

pub returns-clause-value : goal.returns-clause-value
returns-clause-value c p = parts_low c.args.self.now c.is_cube_low.result c.is_cube_low-2.result c.is_cube_low-3.result c.is_cube_low-4.result c.is_cube_low-5.result c.is_cube_low-6.result c.is_cube_low-7.result c.is_cube_low-8.result p c.is_cube_low.ensures.count c.is_cube_low.ensures.low c.is_cube_low-2.ensures.low c.is_cube_low-3.ensures.low c.is_cube_low-4.ensures.low c.is_cube_low-5.ensures.low c.is_cube_low-6.ensures.low c.is_cube_low-7.ensures.low c.is_cube_low-8.ensures.low

pub returns-clause-low : goal.returns-clause-low
returns-clause-low c i v read low = (returns-clause-value c (part_of i)).1 (record { index = i; inside = refl; low = record { voxel = v; read = read; low = low } })
