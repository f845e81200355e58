use Rattle.std.proofs.Common.{◌≡◌, ◌∙◌, refl}
use Rattle.std.specs.Prelude.{◌*ℤ◌}
use Rattle.std.proofs.lemmas.Int.{to_z-of_z}
use Rattle.fuse_kernel.proofs.Machine.{sums_fit, sums_read}
use Rattle.fuse_kernel.proofs.voxel_steps.row_axis.Goals as goal

pub overflow_add-result-2 : goal.overflow_add-result-2
overflow_add-result-2 c = sums_fit c.args.corner c.steps_axis.result c.steps_axis-2.result c.requires.corner c.steps_axis.ensures.bound c.steps_axis-2.ensures.bound

pub returns : goal.returns
returns c =
    let e : c.steps_axis.result ≡ c.args.y *ℤ c.args.b = c.steps_axis.ensures.value ∙ rw (to_z-of_z _ _ c.ranges.y, to_z-of_z _ _ c.ranges.b) refl in
    let f : c.steps_axis-2.result ≡ c.args.z *ℤ c.args.c = c.steps_axis-2.ensures.value ∙ rw (to_z-of_z _ _ c.ranges.z, to_z-of_z _ _ c.ranges.c) refl in
    sums_read c.args.corner c.steps_axis.result c.steps_axis-2.result _ _ c.requires.corner c.steps_axis.ensures.bound c.steps_axis-2.ensures.bound e f
