use Rattle.std.proofs.Common.{◌∙◌, refl, rules}
use Rattle.std.specs.Int.{w16}
use Rattle.std.proofs.lemmas.Int.{to_z-of_z}
use Rattle.voxel_block.proofs.Packing.{voxel_read_at}
use Rattle.voxel_block.proofs.unpack.voxel_at.Goals as goal

pub returns : goal.returns
returns c = voxel_read_at c.args.bytes.now c.args.i _ _ c.requires.len c.requires.index (to_z-of_z w16 c.from_be_bytes-f.result (search rules) ∙ c.from_be_bytes-f.ensures) refl
