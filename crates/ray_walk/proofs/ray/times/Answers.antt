use Rattle.std.proofs.Common.{subst, sym, refl, arith, lit≤}
use Rattle.std.specs.Prelude.{ℤ, pos, ◌*ℤ◌}
use Rattle.std.proofs.lemmas.Int.{ints, to_z-of_z}
use mir.Syntax.{w64}
use Rattle.fixed_geom.specs.Vectors.{IsWithin}
use Rattle.fixed_geom.proofs.Dots.{within_product}
use Rattle.camera.proofs.Machine.{product_same}
use Rattle.ray_walk.proofs.ray.times.Goals as goal

pub returns-clause-value : goal.returns-clause-value
returns-clause-value c = rw (to_z-of_z w64 c.args.offset c.ranges.offset, to_z-of_z w64 c.args.unit c.ranges.unit, product_same 134217728 1073741824 c.args.offset c.args.unit c.requires.offset c.requires.unit (lit≤ tt)) refl

pub returns-clause-bound : goal.returns-clause-bound
returns-clause-bound c = subst (IsWithin (pos 144115188075855872)) (sym (returns-clause-value c)) (wider (c.args.offset *ℤ c.args.unit) (within_product (pos 134217728) (pos 1073741824) c.args.offset c.args.unit c.requires.offset c.requires.unit))
  where
    wider : (x : ℤ) → IsWithin (pos 134217728 *ℤ pos 1073741824) x → IsWithin (pos 144115188075855872) x
    wider x w = record { low = omega (arith, ints); high = omega (arith, ints) }
