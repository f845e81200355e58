use Rattle.std.proofs.Common.{◌≡◌, length, sym, ap, ◌∙◌, arith, subst, rules, List}
use Rattle.std.specs.Prelude.{All}
use Rattle.std.specs.Int.{w16}
use Rattle.std.proofs.lemmas.Int.{to_z-of_z}
use Rattle.voxel_block.specs.declared.voxel.Voxel.{Voxel}
use Rattle.voxel_block.specs.Voxels.{IsVoxel}
use Rattle.voxel_block.proofs.VoxelLists.{length-voxels_of, voxel_read, read_is_voxel}
use Rattle.voxel_block.proofs.block.Block.get.Goals as goal

pub returns-clause-count : goal.returns-clause-count
returns-clause-count c =
    let a = c.self.inside.distances.ok.0 in
    let b = c.self.inside.weights.ok.0 in
    let e : length c.self.inside.distances.items ≡ length c.self.inside.weights.items = omega arith in
    let n : length c.self.inside.distances.items ≡ 512 = omega arith in
    sym (ap length c.self.view_is) ∙ length-voxels_of c.self.inside.distances.items c.self.inside.weights.items e ∙ n

pub returns-clause-value : goal.returns-clause-value
returns-clause-value c =
    let a = c.self.inside.distances.ok.0 in
    let b = c.self.inside.weights.ok.0 in
    let e : length c.self.inside.distances.items ≡ length c.self.inside.weights.items = omega arith in
    voxel_read c.self.inside.distances.items c.self.inside.weights.items c.args.self.now c.args.i c.index-f.result.now _ e (omega arith)
    (to_z-of_z w16 c.index-f.result.now (search rules)) c.index-f.ensures c.index-w.ensures c.self.view_is

pub returns-clause-voxel : goal.returns-clause-voxel
returns-clause-voxel c =
    let n = returns-clause-count c in
    let P : List Voxel → Type 0 = All IsVoxel in
    read_is_voxel c.args.self.now c.args.i _ (subst P c.self.view_is c.self.invariant.2) (omega arith) (returns-clause-value c)
