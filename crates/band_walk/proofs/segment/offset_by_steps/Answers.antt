use Rattle.std.proofs.Common.{◌≡◌, ℕ, ◌*◌, subst, sym, refl, arith, lit≤}
use Rattle.std.specs.Prelude.{ℤ, pos, ◌-ℤ◌, ◌*ℤ◌}
use Rattle.std.proofs.lemmas.Int.{ints}
use mir.Val.{to_z, of_z}
use mir.Syntax.{w64}
use Rattle.fixed_geom.specs.Vectors.{IsWithin}
use Rattle.fixed_geom.proofs.Dots.{within_product}
use Rattle.camera.proofs.Machine.{product_same}
use Rattle.band_walk.proofs.segment.offset_by_steps.Goals as goal

pub returns-clause-value : goal.returns-clause-value
returns-clause-value c =
    let d = c.args.end -ℤ c.args.start in
    let j : to_z w64 (of_z w64 c.from.result) ≡ pos c.args.j = omega (arith, ints) in
    let offset : to_z w64 (of_z w64 (to_z w64 (of_z w64 c.args.end) -ℤ to_z w64 (of_z w64 c.args.start))) ≡ d = omega (arith, ints) in
    let few : IsWithin (pos 75504) (pos c.args.j) = record { low = omega (arith, ints); high = omega (arith, ints) } in
    let near : IsWithin (pos 302012452) d = record { low = omega (arith, ints); high = omega (arith, ints) } in
    rw (j, offset, product_same 75504 302012452 (pos c.args.j) d few near (lit≤ tt)) refl

pub returns-clause-bound : goal.returns-clause-bound
returns-clause-bound c =
    let j = c.args.j in
    let d = c.args.end -ℤ c.args.start in
    let few : IsWithin (pos j) (pos j) = record { low = omega (arith, ints); high = omega (arith, ints) } in
    let near : IsWithin (pos 302012452) d = record { low = omega (arith, ints); high = omega (arith, ints) } in
    subst (IsWithin (pos (302012452 * j))) (sym (returns-clause-value c)) (turned j (pos j *ℤ d) (within_product (pos j) (pos 302012452) (pos j) d few near))
  where
    turned : (j : ℕ) (x : ℤ) → IsWithin (pos j *ℤ pos 302012452) x → IsWithin (pos (302012452 * j)) x
    turned j x w = record { low = omega (arith, ints, w.low); high = omega (arith, ints, w.high) }
