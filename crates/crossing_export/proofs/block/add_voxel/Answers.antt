use Rattle.std.proofs.Common.{◌++◌, ◌∙◌}
use Rattle.std.specs.Option.{option_to_list}
use Rattle.std.proofs.lemmas.Int.{to_z-of_z}
use Rattle.std.proofs.lemmas.Result.{on_ok_weaker}
use mir.Syntax.{w64}
use Rattle.camera.specs.Grid.{voxel_coordinates}
use Rattle.crossing_export.specs.declared.crossing.Axis.TheVariants.{X, Y, Z}
use Rattle.crossing_export.specs.Crossings.{crossing_along}
use Rattle.crossing_export.proofs.BlockLemmas.{three_axes}
use Rattle.crossing_export.proofs.block.add_voxel.Goals as goal

pub returns-clause-appended : goal.returns-clause-appended
returns-clause-appended c =
    let a = c.args.around.now in
    let size = to_z-of_z w64 c.args.size c.ranges.size in
    on_ok_weaker c.add-3.result
    (λ e m h.
    let x = c.along.ensures m h ∙ (λ i. crossing_along m (size i) (voxel_coordinates a.key c.args.i) X) in
    let y = c.along-2.ensures m h ∙ (λ i. crossing_along m (size i) (voxel_coordinates a.key c.args.i) Y) in
    let z = c.along-3.ensures m h ∙ (λ i. crossing_along m (size i) (voxel_coordinates a.key c.args.i) Z) in
    three_axes c.args.out.now.items c.add.new.out.items c.add-2.new.out.items c.add-3.new.out.items _ _ _ c.in_ok-add.ensures.appended c.in_ok-add-2.ensures.appended e
    ∙ (λ i. c.args.out.now.items ++ ((option_to_list (x i) ++ option_to_list (y i)) ++ option_to_list (z i)))) c.add-3.ensures.appended
