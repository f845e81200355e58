use Rattle.std.proofs.Common.{subst, sym, arith}
use Rattle.std.specs.Prelude.{pos}
use Rattle.std.proofs.lemmas.Int.{to_z-of_z}
use Rattle.fixed_geom.specs.Vectors.{IsWithin}
use Rattle.fixed_geom.proofs.Dots.{within_product}
use Rattle.fixed_geom.proofs.Machine.{product_read}
use Rattle.fuse_kernel.proofs.pixel_axis.times.Goals as goal

pub returns-clause-value : goal.returns-clause-value
returns-clause-value c = rw (to_z-of_z _ _ c.ranges.a, to_z-of_z _ _ c.ranges.b) (product_read 4294967296 67108864 c.args.a c.args.b (omega arith) c.requires.a c.requires.b)

pub returns-clause-bound : goal.returns-clause-bound
returns-clause-bound c = subst (IsWithin (pos 288230376151711744)) (sym (returns-clause-value c)) (within_product (pos 4294967296) (pos 67108864) c.args.a c.args.b c.requires.a c.requires.b)
