use Rattle.std.proofs.Common.{subst, sym, refl, arith, lit≤}
use Rattle.std.specs.Prelude.{ℤ, pos, ◌*ℤ◌}
use Rattle.std.proofs.lemmas.Int.{ints, to_z-of_z}
use mir.Syntax.{w64}
use Rattle.fixed_geom.specs.Vectors.{IsWithin}
use Rattle.fixed_geom.proofs.Dots.{within_product}
use Rattle.camera.proofs.Machine.{product_same}
use Rattle.ray_walk.proofs.division.times.Goals as goal

pub returns-clause-value : goal.returns-clause-value
returns-clause-value c = rw (to_z-of_z w64 c.args.size c.ranges.size, to_z-of_z w64 c.args.n c.ranges.n, product_same 100000 32768 c.args.size c.args.n c.requires.size c.requires.n (lit≤ tt)) refl

pub returns-clause-bound : goal.returns-clause-bound
returns-clause-bound c = subst (IsWithin (pos 4294967296)) (sym (returns-clause-value c)) (wider (c.args.size *ℤ c.args.n) (within_product (pos 100000) (pos 32768) c.args.size c.args.n c.requires.size c.requires.n))
  where
    wider : (x : ℤ) → IsWithin (pos 100000 *ℤ pos 32768) x → IsWithin (pos 4294967296) x
    wider x w = record { low = omega (arith, ints); high = omega (arith, ints) }
