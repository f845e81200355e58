use Rattle.std.proofs.Common.{◌∙◌, subst, sym}
use Rattle.std.specs.Prelude.{ℤ, pos, ◌≤ℤ◌, IsTrue}
use Rattle.std.proofs.lemmas.Int.{to_z-of_z}
use mir.Syntax.{w64}
use Rattle.voxel_block.specs.declared.key.BlockKey.{BlockKey}
use Rattle.camera.specs.Grid.{is_key}
use Rattle.ray_walk.proofs.PointLemmas.{depth_front, point_is_active}
use Rattle.ray_walk.proofs.VoxelLemmas.{index_is}
use Rattle.ray_walk.proofs.WalkLemmas.{block_read, voxel_is}
use Rattle.ray_walk.proofs.walks.Walks.voxel.Goals as goal

pub raised_ray-requires-clause-front : goal.raised_ray-requires-clause-front
raised_ray-requires-clause-front c =
    let w = c.args.self.now in
    let z = c.point_depth-z in
    subst (λ (d : ℤ). pos 1 ≤ℤ d) (sym (to_z-of_z w64 z.result (record { sfits = z.type_inv }) ∙ z.ensures.value)) (depth_front w.fields c.args.j w.camera.ranges)

pub block_of-requires-clause-key : goal.block_of-requires-clause-key
block_of-requires-clause-key c =
    let w = c.args.self.now in
    let z = c.point_depth-z in
    let v = c.raised_voxel-voxel in
    let is = voxel_is w c.args.u c.args.v c.args.j z.result c.raised_ray.result v.result (record { sfits = z.type_inv }) z.ensures.value c.raised_ray.ensures.value v.ensures in
    let active = point_is_active w.fields w.pose c.args.u c.args.v c.args.j w.camera w.placed c.requires.column c.requires.row c.requires.point in
    subst (λ (b : BlockKey). IsTrue (is_key b)) (sym (block_read w _ v.result is)) active.1

pub returns-clause-key : goal.returns-clause-key
returns-clause-key c =
    let w = c.args.self.now in
    let z = c.point_depth-z in
    let v = c.raised_voxel-voxel in
    c.block_of.ensures ∙ block_read w _ v.result (voxel_is w c.args.u c.args.v c.args.j z.result c.raised_ray.result v.result (record { sfits = z.type_inv }) z.ensures.value c.raised_ray.ensures.value v.ensures)

pub returns-clause-index : goal.returns-clause-index
returns-clause-index c =
    let w = c.args.self.now in
    let z = c.point_depth-z in
    let v = c.raised_voxel-voxel in
    c.index_of.ensures.value ∙ index_is w.blocks _ v.result (voxel_is w c.args.u c.args.v c.args.j z.result c.raised_ray.result v.result (record { sfits = z.type_inv }) z.ensures.value c.raised_ray.ensures.value v.ensures)
