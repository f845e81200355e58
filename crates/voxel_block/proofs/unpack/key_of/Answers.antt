use Rattle.std.proofs.Common.{◌∙◌, rules}
use Rattle.std.specs.Int.{w16}
use Rattle.std.proofs.lemmas.Int.{to_z-of_z}
use Rattle.voxel_block.specs.Packing.{key_in}
use Rattle.voxel_block.proofs.unpack.key_of.Goals as goal

pub returns : goal.returns
unfolding key_in
returns c =
    let x = to_z-of_z w16 c.from_be_bytes.result (search rules) ∙ c.from_be_bytes.ensures in
    let y = to_z-of_z w16 c.from_be_bytes-2.result (search rules) ∙ c.from_be_bytes-2.ensures in
    let z = to_z-of_z w16 c.from_be_bytes-3.result (search rules) ∙ c.from_be_bytes-3.ensures in
    λ k. record { x = x k; y = y k; z = z k }
