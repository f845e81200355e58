use Rattle.std.proofs.Common.{◌∙◌, ap}
use Rattle.std.specs.Prelude.{ℤ}
use Rattle.std.proofs.lemmas.Int.{to_z-of_z}
use mir.Syntax.{w64}
use Rattle.camera.specs.Grid.{nearest_voxel}
use Rattle.camera.proofs.KeyLemmas.{no_voxel, one_voxel, its_voxel}
use Rattle.camera.proofs.grid.nearest.Goals as goal

pub returns-in_err-block-clause-value : goal.returns-in_err-block-clause-value
returns-in_err-block-clause-value c =
    let s = c.args.size in
    let p = c.args.p in
    let voxel = c.nearest_voxel-voxel.ensures ∙ ap (λ (z : ℤ). nearest_voxel z p) (to_z-of_z w64 s c.ranges.size) in
    c.from_residual.ensures ∙ no_voxel s p c.nearest_voxel-voxel.result c.block_of_voxel.result voxel c.in_err-block.was c.block_of_voxel.ensures

pub returns-clause-value : goal.returns-clause-value
returns-clause-value c =
    let s = c.args.size in
    let p = c.args.p in
    let voxel = c.nearest_voxel-voxel.ensures ∙ ap (λ (z : ℤ). nearest_voxel z p) (to_z-of_z w64 s c.ranges.size) in
    one_voxel s p c.nearest_voxel-voxel.result c.block_of_voxel.result c.in_ok-block.block c.index_of_voxel.result voxel c.in_ok-block.was c.block_of_voxel.ensures c.index_of_voxel.ensures.value

pub returns-clause-voxel : goal.returns-clause-voxel
returns-clause-voxel c =
    let s = c.args.size in
    let p = c.args.p in
    let voxel = c.nearest_voxel-voxel.ensures ∙ ap (λ (z : ℤ). nearest_voxel z p) (to_z-of_z w64 s c.ranges.size) in
    (c.index_of_voxel.ensures.bound, its_voxel s p c.nearest_voxel-voxel.result c.block_of_voxel.result c.in_ok-block.block c.index_of_voxel.result voxel c.in_ok-block.was c.block_of_voxel.ensures c.index_of_voxel.ensures.value)
