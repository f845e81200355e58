use Rattle.std.proofs.Common.{◌≡◌, subst, sym, ap, ◌∙◌, arith}
use Rattle.std.specs.Prelude.{ℤ, pos, ◌+ℤ◌, ◌*ℤ◌, ◌≤ℤ◌}
use Rattle.std.proofs.lemmas.Int.{ints}
use Rattle.fixed_geom.specs.Division.{IsFloor, floor_div}
use Rattle.fixed_geom.proofs.Floors.{floor_is, floor_above, floor_below}
use Rattle.fixed_geom.proofs.Whole.{mul_sum}
use Rattle.fixed_geom.proofs.Machine.{read}
use Rattle.ray_walk.proofs.voxels.raised_blocks.Goals as goal

pub returns-clause-high : goal.returns-clause-high
returns-clause-high c =
    let s = c.args.size in
    let same : read (pos 8 *ℤ read s) ≡ pos 8 *ℤ s = omega (arith, ints) in
    let l1 : pos 1 ≤ℤ (pos 8 *ℤ s) = omega (arith, ints) in
    let q = c.div_euclid.result in
    let i : IsFloor (pos 152000000) (pos 8 *ℤ s) q = subst (λ (n : ℤ). IsFloor (pos 152000000) (pos 8 *ℤ s) n) (sym (c.div_euclid.ensures ∙ ap (λ (l : ℤ). floor_div (pos 152000000) l) same)) (floor_is (pos 152000000) (pos 8 *ℤ s) l1) in
    let low : pos 0 ≤ℤ q = floor_above (pos 152000000) (pos 8 *ℤ s) q (pos 0) l1 i (omega (arith, ints)) in
    let high : q ≤ℤ pos 19000 = floor_below (pos 152000000) (pos 8 *ℤ s) q (pos 19000) l1 i (omega (arith, ints)) in
    let next : read (read q +ℤ pos 1) ≡ q +ℤ pos 1 = omega (arith, ints) in
    subst (λ (n : ℤ). (pos 8 *ℤ s *ℤ n) ≤ℤ pos 152800000) (sym next) (plain (pos 8 *ℤ s *ℤ (q +ℤ pos 1)) (pos 8 *ℤ s *ℤ q) (pos 8 *ℤ s *ℤ pos 1) s (mul_sum (pos 8 *ℤ s) q (pos 1)) (omega (arith, ints)) i.below c.requires.size_high)
  where
    plain : (top lq l1 s : ℤ) → top ≡ lq +ℤ l1 → l1 ≡ pos 8 *ℤ s → lq ≤ℤ pos 152000000 → s ≤ℤ pos 100000 → top ≤ℤ pos 152800000
    plain top lq l1 s a b d e = omega (arith, ints)
