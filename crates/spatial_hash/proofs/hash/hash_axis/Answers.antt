use Rattle.std.proofs.Common.{◌≡◌, ◌<◌, ◌^◌, ap, ◌∙◌, rules, ℤ, arith}
use Rattle.std.specs.Prelude.{FitsSigned, ◌*ℤ◌, unsigned_abs, pos, negsuc}
use Rattle.std.specs.Int.{w16, w32, cast_unsigned, int_wrap, int_rem_euclid}
use Rattle.std.proofs.lemmas.Int.{wrapping_mul_is, of_z-to_z, to_z-of_z}
use Rattle.spatial_hash.specs.Hash.{hash_axis}
use Rattle.spatial_hash.proofs.hash.hash_axis.Goals as goal

below : (z : ℤ) → unsigned_abs (int_rem_euclid z (pos (2 ^ 32))) < 2 ^ 32
below (pos a) = omega arith
below (negsuc a) = omega arith

wrapped : (z : ℤ) → cast_unsigned w32 (int_wrap w32 z) ≡ unsigned_abs (int_rem_euclid z (pos (2 ^ 32)))
unfolding int_wrap
wrapped z = of_z-to_z w32 (unsigned_abs (int_rem_euclid z (pos (2 ^ 32)))) (below z)

pub returns : goal.returns
returns c =
    let from : c.from.result ≡ c.args.a = c.from.ensures ∙ to_z-of_z w16 c.args.a c.ranges.a in
    let fits : FitsSigned w32 c.from.result = search rules in
    c.cast_unsigned.ensures ∙ ap (cast_unsigned w32) (wrapping_mul_is w32 c.from.result c.args.factor fits c.ranges.factor)
    ∙ wrapped (c.from.result *ℤ c.args.factor) ∙ ap (λ (x : ℤ). hash_axis x c.args.factor) from
