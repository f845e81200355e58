-- Floors of sums: whole micrometres in a form, whole voxels in a coordinate, and whole blocks.
use Rattle.std.proofs.Common.{◌≡◌, arith}
use Rattle.std.specs.Prelude.{ℤ, pos, ◌+ℤ◌, ◌*ℤ◌, ◌≤ℤ◌, ◌<ℤ◌}
use Rattle.std.proofs.lemmas.Int.{ints}
use Rattle.fixed_geom.specs.Division.{IsFloor, floor_div}
use Rattle.fixed_geom.specs.Poses.{unit}
use Rattle.fixed_geom.proofs.Whole.{mul_sum, mul_group}
use Rattle.fixed_geom.proofs.Floors.{floor_is, floor_div_is}
use Rattle.camera.specs.Grid.{nearest_axis}

-- whole micrometres pass through the floor of a form
pub whole_passes : (t g : ℤ) → floor_div (unit *ℤ t +ℤ g) unit ≡ t +ℤ floor_div g unit
whole_passes t g = floor_div_is (unit *ℤ t +ℤ g) unit (t +ℤ floor_div g unit) (omega (arith, ints)) (plain t g (floor_div g unit) (floor_is g unit (omega (arith, ints))))
  where
    plain : (t g q : ℤ) → IsFloor g unit q → IsFloor (unit *ℤ t +ℤ g) unit (t +ℤ q)
    plain t g q i = record { below = omega (arith, ints, i.below, i.above); above = omega (arith, ints, i.below, i.above) }

-- the nearest voxel's coordinate, and k more, is one floor
pub nearest_by_one : (s p k : ℤ) → pos 1 ≤ℤ s → floor_div (p +ℤ floor_div s (pos 2) +ℤ s *ℤ k) s ≡ nearest_axis s p +ℤ k
nearest_by_one s p k s1 =
    let n = nearest_axis s p in
    let h = floor_is s (pos 2) (omega (arith, ints)) in
    let i = floor_is (pos 2 *ℤ p +ℤ s) (pos 2 *ℤ s) (omega (arith, ints, s1)) in
    let whole = mul_sum s n k in
    let twice = mul_group (pos 2) s n in
    floor_div_is (p +ℤ floor_div s (pos 2) +ℤ s *ℤ k) s (n +ℤ k) s1 (record {
      below = lower s p (floor_div s (pos 2)) (s *ℤ k) ((pos 2 *ℤ s) *ℤ n) (s *ℤ n) (s *ℤ (n +ℤ k)) h.below h.above i.below twice whole;
      above = upper s p (floor_div s (pos 2)) (s *ℤ k) ((pos 2 *ℤ s) *ℤ n) (s *ℤ n) (s *ℤ (n +ℤ k)) h.below h.above i.above twice whole;
    })
  where
    lower : (s p h sk dn sn sum : ℤ) → (pos 2 *ℤ h) ≤ℤ s → s <ℤ (pos 2 *ℤ h +ℤ pos 2) → dn ≤ℤ (pos 2 *ℤ p +ℤ s) → dn ≡ pos 2 *ℤ sn → sum ≡ sn +ℤ sk → sum ≤ℤ (p +ℤ h +ℤ sk)
    lower s p h sk dn sn sum a b c d e = omega (arith, ints)

    upper : (s p h sk dn sn sum : ℤ) → (pos 2 *ℤ h) ≤ℤ s → s <ℤ (pos 2 *ℤ h +ℤ pos 2) → (pos 2 *ℤ p +ℤ s) <ℤ (dn +ℤ pos 2 *ℤ s) → dn ≡ pos 2 *ℤ sn → sum ≡ sn +ℤ sk → (p +ℤ h +ℤ sk) <ℤ (sum +ℤ s)
    upper s p h sk dn sn sum a b c d e = omega (arith, ints)

-- the block's coordinate of a voxel's, with f blocks more
pub block_passes : (n f : ℤ) → floor_div (n +ℤ pos 8 *ℤ f) (pos 8) ≡ floor_div n (pos 8) +ℤ f
block_passes n f = floor_div_is (n +ℤ pos 8 *ℤ f) (pos 8) (floor_div n (pos 8) +ℤ f) (omega (arith, ints)) (plain n f (floor_div n (pos 8)) (floor_is n (pos 8) (omega (arith, ints))))
  where
    plain : (n f b : ℤ) → IsFloor n (pos 8) b → IsFloor (n +ℤ pos 8 *ℤ f) (pos 8) (b +ℤ f)
    plain n f b i = record { below = omega (arith, ints, i.below, i.above); above = omega (arith, ints, i.below, i.above) }
