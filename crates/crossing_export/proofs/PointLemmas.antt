-- The coordinates of a crossing.
use Rattle.std.proofs.Common.{◌≡◌, ℕ, ◌<◌, ◌∙◌, ap, subst, sym, arith}
use Rattle.std.specs.Prelude.{ℤ, pos, ◌+ℤ◌, ◌*ℤ◌, ◌≤ℤ◌, ◌<ℤ◌}
use Rattle.std.proofs.lemmas.Int.{ints}
use Rattle.fixed_geom.specs.Division.{floor_div}
use Rattle.fixed_geom.specs.Vectors.{IsWithin}
use Rattle.fixed_geom.proofs.Floors.{floor_is, floor_below}
use Rattle.fixed_geom.proofs.Machine.{product_read, read}
use Rattle.fixed_geom.proofs.Whole.{mul_group, mul_order, mul_turn, sum_mul}

-- ---- the point of a voxel

pub size_within : (s : ℤ) → pos 1 ≤ℤ s → s ≤ℤ pos 100000 → IsWithin (pos 100000) s
size_within s low high = record { low = omega (arith, ints); high = omega (arith, ints) }

-- 8 s b and less than 8 voxels more
pub coordinate_near : (r s b : ℤ) (place : ℕ) → pos 1 ≤ℤ s → s ≤ℤ pos 100000 → place < 8 → IsWithin (pos 1073741824) (pos 8 *ℤ s *ℤ b) → r ≡ (pos 8 *ℤ b +ℤ pos place) *ℤ s → IsWithin (pos 1074441824) r
coordinate_near r s b place s1 sh low near e =
    by (pos 8 *ℤ s *ℤ b) (s *ℤ pos place) near (mul_order s (pos 0) (pos place) (omega (arith, ints)) (omega (arith, ints))) (mul_order s (pos place) (pos 7) (omega (arith, ints)) (omega (arith, ints))) (e ∙ parts)
  where
    parts : (pos 8 *ℤ b +ℤ pos place) *ℤ s ≡ pos 8 *ℤ s *ℤ b +ℤ s *ℤ pos place
    parts = sum_mul (pos 8 *ℤ b) (pos place) s ∙ (λ i. (mul_group (pos 8) b s ∙ ap (λ (z : ℤ). pos 8 *ℤ z) (mul_turn b s) ∙ sym (mul_group (pos 8) s b)) i +ℤ mul_turn (pos place) s i)

    by : (a q : ℤ) → IsWithin (pos 1073741824) a → (s *ℤ pos 0) ≤ℤ q → q ≤ℤ (s *ℤ pos 7) → r ≡ a +ℤ q → IsWithin (pos 1074441824) r
    by a q w l h e = record { low = omega (arith, ints); high = omega (arith, ints) }

-- ---- the offset of a crossing

pub share_product : (s p w : ℤ) → pos 1 ≤ℤ s → s ≤ℤ pos 100000 → pos 0 ≤ℤ p → p ≤ℤ w → w ≤ℤ pos 65535 → read (s *ℤ p) ≡ s *ℤ p
share_product s p w s1 sh p0 pw wh = product_read 100000 65535 s p (omega arith) (record { low = omega (arith, ints); high = sh }) (record { low = omega (arith, ints); high = omega (arith, ints) })

pub share_high : (r s p w : ℤ) → pos 1 ≤ℤ s → p ≤ℤ w → pos 1 ≤ℤ w → r ≡ floor_div (s *ℤ p) w → r ≤ℤ s
share_high r s p w s1 pw w1 e =
    subst (λ (z : ℤ). z ≤ℤ s) (sym e) (floor_below (s *ℤ p) w (floor_div (s *ℤ p) w) s w1 (floor_is (s *ℤ p) w w1) (plain (s *ℤ p) (s *ℤ w) (w *ℤ s) (mul_order s p w (omega (arith, ints)) pw) (mul_turn w s)))
  where
    plain : (sp sw ws : ℤ) → sp ≤ℤ sw → ws ≡ sw → sp <ℤ (ws +ℤ w)
    plain sp sw ws h e = omega (arith, ints)

-- ---- the crossing

pub sum_read : (a d : ℤ) → IsWithin (pos 1074441824) a → pos 0 ≤ℤ d → d ≤ℤ pos 100000 → read (read a +ℤ read d) ≡ a +ℤ d
sum_read a d w low high = omega (arith, ints)

pub coordinate_read : (a : ℤ) → IsWithin (pos 1074441824) a → read a ≡ a
coordinate_read a w = omega (arith, ints)
