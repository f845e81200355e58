use Rattle.std.proofs.Common.{◌≡◌, length, sym, ap, ◌∙◌, arith}
use Rattle.voxel_block.proofs.VoxelLists.{length-voxels_of}
use Rattle.voxel_block.proofs.block.Block.len.Goals as goal

pub returns-clause-voxels : goal.returns-clause-voxels
returns-clause-voxels c =
    let a = c.self.inside.distances.ok.0 in
    let b = c.self.inside.weights.ok.0 in
    let e : length c.self.inside.distances.items ≡ length c.self.inside.weights.items = omega arith in
    let n : length c.self.inside.distances.items ≡ 512 = omega arith in
    sym (ap length c.self.view_is) ∙ length-voxels_of c.self.inside.distances.items c.self.inside.weights.items e ∙ n
