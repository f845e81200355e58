use Rattle.std.proofs.Common.{◌≡◌, subst, sym, ap, ◌∙◌, arith}
use Rattle.std.specs.Prelude.{ℤ, pos, ◌+ℤ◌, ◌≤ℤ◌}
use Rattle.std.proofs.lemmas.Int.{ints}
use Rattle.fixed_geom.specs.Division.{IsFloor, floor_div}
use Rattle.fixed_geom.specs.Vectors.{IsWithin}
use Rattle.fixed_geom.proofs.Floors.{floor_is}
use Rattle.fixed_geom.proofs.Machine.{read}
use Rattle.ray_walk.proofs.voxels.raise_of.Goals as goal

pub returns-clause-bound : goal.returns-clause-bound
returns-clause-bound c =
    let same : read c.args.size ≡ c.args.size = omega (arith, ints) in
    plain c.args.size c.div_euclid.result c.length.result c.requires.size c.requires.size_high (subst (λ (h : ℤ). IsFloor c.args.size (pos 2) h) (sym (c.div_euclid.ensures ∙ ap (λ (s : ℤ). floor_div s (pos 2)) same)) (floor_is c.args.size (pos 2) (omega (arith, ints)))) c.length.ensures.low c.length.ensures.high
  where
    plain : (s h l : ℤ) → pos 1000 ≤ℤ s → s ≤ℤ pos 100000 → IsFloor s (pos 2) h → pos 152000000 ≤ℤ l → l ≤ℤ pos 152800000 → IsWithin (pos 152850000) (read (read h +ℤ read l))
    plain s h l a b i d e = record { low = omega (arith, ints, i.below, i.above); high = omega (arith, ints, i.below, i.above) }
