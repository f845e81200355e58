use Rattle.std.proofs.Common.{◌+◌, ◌-◌, List, sym, ap, ◌∙◌}
use Rattle.std.specs.Prelude.{Option}
use Rattle.std.specs.FinMap.{get}
use Rattle.voxel_block.specs.declared.voxel.Voxel.{Voxel}
use Rattle.camera.specs.Values.{value_in}
use Rattle.crossing_export.proofs.PlaceLemmas.{value_read, z_inside, z_outside}
use Rattle.crossing_export.proofs.around.Around.next_on_z.Goals as goal

pub returns-then-i-lt7 : goal.returns-then-i-lt7
returns-then-i-lt7 c =
    let a = c.args.self.now in
    λ m h. value_read c.known_value.result (get m a.key) a.here.now (c.args.i + 64) c.get.result c.known_value.ensures c.get.ensures.value h.here ∙ sym (z_inside m a.key c.args.i c.requires c.if-i-lt7.true)

pub returns-else-i-lt7 : goal.returns-else-i-lt7
returns-else-i-lt7 c =
    let a = c.args.self.now in
    λ m h. c.value.ensures ∙ ap (λ (o : Option (List Voxel)). value_in o (c.args.i - 448)) (sym h.z) ∙ sym (z_outside m a.key c.args.i c.requires c.if-i-lt7.false)
