use Rattle.std.proofs.Common.{subst, sym, arith}
use Rattle.std.specs.Prelude.{pos}
use Rattle.std.proofs.lemmas.Int.{ints, to_z-of_z}
use Rattle.fixed_geom.specs.Vectors.{IsWithin}
use Rattle.fixed_geom.specs.Poses.{entry_bound}
use Rattle.fixed_geom.proofs.Dots.{within_product}
use Rattle.camera.proofs.Machine.{product_same}
use Rattle.camera.proofs.Readings.{wider}
use Rattle.fuse_kernel.proofs.voxel_steps.step_axis.Goals as goal

pub returns-clause-value : goal.returns-clause-value
returns-clause-value c = rw (to_z-of_z _ _ c.ranges.voxel, to_z-of_z _ _ c.ranges.entry) (product_same 100000 1073872896 c.args.voxel c.args.entry c.requires.voxel c.requires.entry (omega arith))

pub returns-clause-bound : goal.returns-clause-bound
returns-clause-bound c = subst (IsWithin (pos 140737488355328)) (sym (returns-clause-value c)) (wider (pos 107387289600000) (pos 140737488355328) _ (omega (arith, ints)) (within_product (pos 100000) entry_bound c.args.voxel c.args.entry c.requires.voxel c.requires.entry))
