-- The render walk: the voxel nearest to a point of a pixel's ray lies in an active block whose coordinates fit 16 bits.
use Rattle.std.proofs.Common.{◌≡◌, ap, ◌∙◌, arith}
use Rattle.std.specs.Prelude.{ℤ, pos, neg_ℤ, ◌+ℤ◌, ◌-ℤ◌, ◌*ℤ◌, ◌≤ℤ◌, ◌<ℤ◌, IsTrue}
use Rattle.std.proofs.lemmas.Int.{ints, by_lt_z}
use Rattle.fixed_geom.specs.Division.{IsFloor, floor_div}
use Rattle.fixed_geom.specs.declared.vector.Vec3.{Vec3}
use Rattle.fixed_geom.specs.Vectors.{IsWithin, AreWithin, minus}
use Rattle.fixed_geom.specs.Poses.{Pose, cam, world, IsPose, HasPoseRange}
use Rattle.fixed_geom.proofs.Whole.{mul_turn, mul_group, mul_order}
use Rattle.fixed_geom.proofs.Floors.{floor_is}
use Rattle.fixed_geom.proofs.Segments.{IsBetween}
use Rattle.fixed_geom.proofs.Steps.{step_of_half}
use Rattle.camera.specs.declared.camera.CameraFields.{CameraFields}
use Rattle.camera.specs.Grid.{centre_of, nearest_axis, nearest_voxel, block_of_voxel, is_key}
use Rattle.camera.specs.Cameras.{HasRanges, HasReach, FitsSphere, max_depth, opening_margin, ray, is_active}
use Rattle.camera.proofs.RayLemmas.{ray_world}
use Rattle.camera.proofs.Keys.{key_holds}
use Rattle.camera.proofs.Offsets.{IsLocal, offset_axis_within}
use Rattle.camera.proofs.Active.{wide_drift, near_reach, opening_margin_large}
use Rattle.camera.proofs.RayBack.{IsPixel, pixel_bounds, ray_back}

-- the offset of a voxel coordinate in its block
pub local : (n b : ℤ) → IsFloor n (pos 8) b → IsLocal (n -ℤ pos 8 *ℤ b)
local n b i = record { low = omega (arith, ints, i.below, i.above); high = omega (arith, ints, i.below, i.above) }

-- twice the offset from the nearest voxel, over plain numbers
near_voxel : (s p n : ℤ) → IsFloor (pos 2 *ℤ p +ℤ s) (pos 2 *ℤ s) n → IsWithin s (pos 2 *ℤ (p -ℤ n *ℤ s))
near_voxel s p n i = plain s p ((pos 2 *ℤ s) *ℤ n) (n *ℤ s) (mul_group (pos 2) s n ∙ ap (λ (z : ℤ). pos 2 *ℤ z) (mul_turn s n)) i.below i.above
  where
    plain : (s p sn ns : ℤ) → sn ≡ pos 2 *ℤ ns → sn ≤ℤ (pos 2 *ℤ p +ℤ s) → (pos 2 *ℤ p +ℤ s) <ℤ (sn +ℤ pos 2 *ℤ s) → IsWithin s (pos 2 *ℤ (p -ℤ ns))
    plain s p sn ns e h i = record { low = omega (arith, ints); high = omega (arith, ints) }

-- a point is within half of 9 s of the centre of its nearest voxel's block
half_way : (s p : ℤ) → pos 1 ≤ℤ s → IsWithin (floor_div (pos 9 *ℤ s) (pos 2)) (p -ℤ (pos 8 *ℤ floor_div (nearest_axis s p) (pos 8) +ℤ pos 4) *ℤ s)
half_way s p s1 =
    let n = nearest_axis s p in
    let b = floor_div n (pos 8) in
    let x = n -ℤ pos 8 *ℤ b in
    let is = floor_is n (pos 8) (omega (arith, ints)) in
    let near = near_voxel s p n (floor_is (pos 2 *ℤ p +ℤ s) (pos 2 *ℤ s) (omega (arith, ints))) in
    let voxel : (pos 8 *ℤ b +ℤ x) *ℤ s ≡ n *ℤ s = ap (λ (z : ℤ). z *ℤ s) (back (pos 8 *ℤ b) n) in
    let inner = offset_axis_within s b x (omega (arith, ints)) (local n b is) in
    ended s p (n *ℤ s) ((pos 8 *ℤ b +ℤ x) *ℤ s) ((pos 8 *ℤ b +ℤ pos 4) *ℤ s) (floor_div (pos 9 *ℤ s) (pos 2)) voxel near inner (floor_is (pos 9 *ℤ s) (pos 2) (omega (arith, ints)))
  where
    back : (m n : ℤ) → m +ℤ (n -ℤ m) ≡ n
    back m n = omega (arith, ints)

    ended : (s p ns bx d h : ℤ) → bx ≡ ns → IsWithin s (pos 2 *ℤ (p -ℤ ns)) → IsWithin (pos 4 *ℤ s) (bx -ℤ d) → IsFloor (pos 9 *ℤ s) (pos 2) h → IsWithin h (p -ℤ d)
    ended s p ns bx d h e u w i = record { low = omega (arith, ints, i.below, i.above); high = omega (arith, ints, i.below, i.above) }

half_of : (s : ℤ) → (pos 2 *ℤ floor_div (pos 9 *ℤ s) (pos 2)) ≤ℤ (pos 9 *ℤ s)
half_of s = (floor_is (pos 9 *ℤ s) (pos 2) (omega (arith, ints))).below

-- the camera points of a point and of the centre of its nearest voxel's block are within 14 s
pub nearest_step : (m : Pose) (s : ℤ) (p : Vec3) → HasPoseRange m → pos 1 ≤ℤ s → AreWithin (pos 14 *ℤ s) (minus (cam m p) (cam m (centre_of s (block_of_voxel (nearest_voxel s p)))))
nearest_step m s p r s1 =
    step_of_half m p (centre_of s (block_of_voxel (nearest_voxel s p))) (floor_div (pos 9 *ℤ s) (pos 2)) s r (omega (arith, ints)) (half_of s)
    (record { x = half_way s p.x s1; y = half_way s p.y s1; z = half_way s p.z s1 })

-- the voxel nearest to the world point of a pixel's ray lies in an active block
pub walk_is_active : (k : CameraFields) (m : Pose) (u v z : ℤ) → HasRanges k → FitsSphere k → IsPose m → IsPixel k u v → pos 1 ≤ℤ z → z ≤ℤ max_depth k → IsTrue (is_active k m (block_of_voxel (nearest_voxel k.voxel (world m (ray k u v z)))))
walk_is_active k m u v z r h o i front back =
    let s = k.voxel in
    let s1 : pos 1 ≤ℤ s = omega (arith, ints, r.voxel) in
    let c = ray k u v z in
    let p = world m c in
    let d = cam m (centre_of s (block_of_voxel (nearest_voxel s p))) in
    let b = pixel_bounds k u v z r i front back in
    let large = opening_margin_large k c.x c.y r b.0 b.1 in
    let w = ray_back k m u v z r o i front back in
    let n = nearest_step m s p o.range s1 in
    near_reach k c d (wide_drift k +ℤ pos 14 *ℤ s) r h b.0 b.1 front back
    (record {
      x = joined (wide_drift k) (pos 14 *ℤ s) c.x (cam m p).x d.x w.x n.x;
      y = joined (wide_drift k) (pos 14 *ℤ s) c.y (cam m p).y d.y w.y n.y;
      z = joined (wide_drift k) (pos 14 *ℤ s) c.z (cam m p).z d.z w.z n.z;
    }) (fewer (pos 14 *ℤ s) (wide_drift k) (opening_margin k) large.1)
  where
    joined : (d n x y z : ℤ) → IsWithin d (y -ℤ x) → IsWithin n (y -ℤ z) → IsWithin (d +ℤ n) (z -ℤ x)
    joined d n x y z v w = record { low = omega (arith, ints); high = omega (arith, ints) }

    fewer : (s d m : ℤ) → m ≡ s +ℤ d +ℤ pos 8 → (d +ℤ s) ≤ℤ m
    fewer s d m e = omega (arith, ints)

-- ---- keys

-- 2 s times a voxel coordinate, for a point within 151006226 of the origin
fits_high : (s p n b : ℤ) → pos 1000 ≤ℤ s → p ≤ℤ pos 151006226 → IsFloor (pos 2 *ℤ p +ℤ s) (pos 2 *ℤ s) n → IsFloor n (pos 8) b → b ≤ℤ pos 18876
fits_high s p n b s1 le i j = by_lt_z (pos 18876) b
    (λ (l : pos 18876 <ℤ b). absurd (plain s p ((pos 2 *ℤ s) *ℤ n) s1 le i.below (mul_order (pos 2 *ℤ s) (pos 151016) n (omega (arith, ints)) (large n b l j.below))))
    (λ (h : b ≤ℤ pos 18876). h)
  where
    large : (n b : ℤ) → pos 18876 <ℤ b → (pos 8 *ℤ b) ≤ℤ n → pos 151016 ≤ℤ n
    large n b l h = omega (arith, ints)

    plain : (s p x : ℤ) → pos 1000 ≤ℤ s → p ≤ℤ pos 151006226 → x ≤ℤ (pos 2 *ℤ p +ℤ s) → (pos 2 *ℤ s *ℤ pos 151016) ≤ℤ x → ⊥
    plain s p x a b c d = omega (arith, ints)

fits_low : (s p n b : ℤ) → pos 1000 ≤ℤ s → (neg_ℤ (pos 151006226)) ≤ℤ p → IsFloor (pos 2 *ℤ p +ℤ s) (pos 2 *ℤ s) n → IsFloor n (pos 8) b → (neg_ℤ (pos 18876)) ≤ℤ b
fits_low s p n b s1 le i j = by_lt_z b (neg_ℤ (pos 18876))
    (λ (l : b <ℤ neg_ℤ (pos 18876)). absurd (plain s p ((pos 2 *ℤ s) *ℤ n) s1 le i.above (mul_order (pos 2 *ℤ s) n (neg_ℤ (pos 151009)) (omega (arith, ints)) (small n b l j.above))))
    (λ (h : neg_ℤ (pos 18876) ≤ℤ b). h)
  where
    small : (n b : ℤ) → b <ℤ neg_ℤ (pos 18876) → n <ℤ (pos 8 *ℤ b +ℤ pos 8) → n ≤ℤ neg_ℤ (pos 151009)
    small n b l h = omega (arith, ints)

    plain : (s p x : ℤ) → pos 1000 ≤ℤ s → (neg_ℤ (pos 151006226)) ≤ℤ p → (pos 2 *ℤ p +ℤ s) <ℤ (x +ℤ pos 2 *ℤ s) → x ≤ℤ (pos 2 *ℤ s *ℤ neg_ℤ (pos 151009)) → ⊥
    plain s p x a b c d = omega (arith, ints)

key_axis : (s p : ℤ) → pos 1000 ≤ℤ s → IsWithin (pos 151006226) p → IsBetween (neg_ℤ (pos 18876)) (pos 18876) (floor_div (nearest_axis s p) (pos 8))
key_axis s p s1 w =
    let n = nearest_axis s p in
    let i = floor_is (pos 2 *ℤ p +ℤ s) (pos 2 *ℤ s) (omega (arith, ints)) in
    let j = floor_is n (pos 8) (omega (arith, ints)) in
    record { low = fits_low s p n (floor_div n (pos 8)) s1 w.low i j; high = fits_high s p n (floor_div n (pos 8)) s1 w.high i j }

-- the coordinates of that block fit 16 bits
pub walk_has_key : (k : CameraFields) (m : Pose) (u v z : ℤ) → HasRanges k → HasReach k → HasPoseRange m → IsPixel k u v → pos 1 ≤ℤ z → z ≤ℤ max_depth k → IsTrue (is_key (block_of_voxel (nearest_voxel k.voxel (world m (ray k u v z)))))
walk_has_key k m u v z r h o i front back =
    let w = ray_world k m u v z r h o i.u_low i.u_high i.v_low i.v_high front back in
    let p = world m (ray k u v z) in
    let x = key_axis k.voxel p.x r.voxel w.x in
    let y = key_axis k.voxel p.y r.voxel w.y in
    let z = key_axis k.voxel p.z r.voxel w.z in
    key_holds (block_of_voxel (nearest_voxel k.voxel p)) x.low x.high y.low y.high z.low z.high
