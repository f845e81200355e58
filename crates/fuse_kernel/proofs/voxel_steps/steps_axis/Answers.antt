use Rattle.std.proofs.Common.{subst, sym, arith}
use Rattle.std.specs.Prelude.{pos}
use Rattle.std.proofs.lemmas.Int.{to_z-of_z}
use Rattle.fixed_geom.specs.Vectors.{IsWithin}
use Rattle.fixed_geom.proofs.Dots.{within_product}
use Rattle.camera.proofs.Machine.{product_same}
use Rattle.fuse_kernel.proofs.voxel_steps.steps_axis.Goals as goal

pub returns-clause-value : goal.returns-clause-value
returns-clause-value c = rw (to_z-of_z _ _ c.ranges.n, to_z-of_z _ _ c.ranges.step) (product_same 8 140737488355328 c.args.n c.args.step c.requires.n c.requires.step (omega arith))

pub returns-clause-bound : goal.returns-clause-bound
returns-clause-bound c = subst (IsWithin (pos 1125899906842624)) (sym (returns-clause-value c)) (within_product (pos 8) (pos 140737488355328) c.args.n c.args.step c.requires.n c.requires.step)
