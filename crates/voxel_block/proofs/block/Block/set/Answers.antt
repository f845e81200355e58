use Rattle.std.proofs.Common.{◌≡◌, length, set, ap, ◌∙◌, arith, rules}
use Rattle.std.specs.Int.{w16}
use Rattle.std.proofs.lemmas.Int.{to_z-of_z}
use Rattle.voxel_block.proofs.VoxelLists.{voxels_of-set, all_set}
use Rattle.voxel_block.proofs.block.Block.set.Goals as goal

pub invariant_of-self : goal.invariant_of-self
invariant_of-self c =
    let a = c.self.inside.distances.ok.0 in
    let b = c.self.inside.weights.ok.0 in
    let e : length c.self.inside.distances.items ≡ length c.self.inside.weights.items = omega arith in
    (c.self.invariant.0, c.self.invariant.1, all_set c.self.inside.distances.items c.self.inside.weights.items c.args.i _ c.args.v e (to_z-of_z w16 c.args.v.f (search rules)) c.requires.voxel c.self.invariant.2)

pub returns : goal.returns
returns c =
    let a = c.self.inside.distances.ok.0 in
    let b = c.self.inside.weights.ok.0 in
    let e : length c.self.inside.distances.items ≡ length c.self.inside.weights.items = omega arith in
    voxels_of-set c.self.inside.distances.items c.self.inside.weights.items c.args.i _ c.args.v e (to_z-of_z w16 c.args.v.f (search rules)) ∙ ap (λ vs. set vs c.args.i c.args.v) c.self.view_is
