-- The points of a pixel's ray: how far they are from the axis, and how far from the origin they are in the world.
use Rattle.std.proofs.Common.{◌≡◌, ℕ, ◌<◌, Bool, true, false, cond, refl, subst, arith}
use Rattle.std.specs.Prelude.{ℤ, pos, neg_ℤ, ◌+ℤ◌, ◌-ℤ◌, ◌*ℤ◌, ◌≤ℤ◌, ◌<ℤ◌, unsigned_abs, ◌==◌, Some, None}
use Rattle.std.specs.Int.{int_max}
use Rattle.std.proofs.lemmas.Int.{ints, clamps}
use Rattle.fixed_geom.specs.Division.{floor_div}
use Rattle.fixed_geom.specs.Vectors.{IsWithin, AreWithin}
use Rattle.fixed_geom.specs.Poses.{Pose, HasPoseRange, world}
use Rattle.fixed_geom.proofs.Whole.{mul_sum, mul_neg, mul_turn, mul_order}
use Rattle.fixed_geom.proofs.Floors.{floor_is, floor_above, floor_below}
use Rattle.fixed_geom.proofs.Worlds.{world_bound}
use Rattle.camera.specs.declared.camera.CameraFields.{CameraFields}
use Rattle.camera.specs.Cameras.{HasRanges, HasReach, left, right, half, max_depth, reach_axis, reach_x, reach_y, ray_axis, ray, depth_of, within}
use Rattle.camera.proofs.ProjectionLemmas.{within_parts}

-- a factor that is at most m, at a depth of at most top, gives at most top m
pub at_depth : (k m z top : ℤ) → k ≤ℤ m → pos 0 ≤ℤ m → pos 0 ≤ℤ z → z ≤ℤ top → (k *ℤ z) ≤ℤ (top *ℤ m)
at_depth k m z top km m0 z0 le =
    let one : (z *ℤ k) ≤ℤ (z *ℤ m) = mul_order z k m z0 km in
    let two : (m *ℤ z) ≤ℤ (m *ℤ top) = mul_order m z top m0 le in
    joined (z *ℤ k) (z *ℤ m) (m *ℤ z) (m *ℤ top) (k *ℤ z) (top *ℤ m) one two (mul_turn k z) (mul_turn z m) (mul_turn top m)
  where
    joined : (zk zm mz mt kz tm : ℤ) → zk ≤ℤ zm → mz ≤ℤ mt → kz ≡ zk → zm ≡ mz → tm ≡ mt → kz ≤ℤ tm
    joined zk zm mz mt kz tm a b e f g = omega (arith, ints)

-- both sides of the image are at most the greater one
pub half_covers : (w c : ℤ) → pos 0 ≤ℤ c → (left c ≤ℤ half w c) × (right w c ≤ℤ half w c) × (pos 0 ≤ℤ half w c)
half_covers w c h = covers (left c) (right w c) (omega (arith, ints))
  where
    covers : (l r : ℤ) → pos 0 ≤ℤ l → (l ≤ℤ int_max l (pos (unsigned_abs r))) × (r ≤ℤ int_max l (pos (unsigned_abs r))) × (pos 0 ≤ℤ int_max l (pos (unsigned_abs r)))
    covers l r h = omega (arith, ints, clamps)

-- a ray's point is within the reach, on one axis
pub ray_within : (f c w u z top : ℤ) → pos 1 ≤ℤ f → pos 0 ≤ℤ c → pos 0 ≤ℤ u → u <ℤ w → pos 1 ≤ℤ z → z ≤ℤ top → IsWithin (reach_axis top f w c) (ray_axis f c u z)
ray_within f c w u z top f1 c0 u0 uw z1 le =
    let m = half w c in
    let p = pos 65536 *ℤ u -ℤ c in
    let covers = half_covers w c c0 in
    let z0 : pos 0 ≤ℤ z = omega (arith, ints) in
    let most : (p *ℤ z) ≤ℤ (top *ℤ m) = at_depth p m z top (ordered p (right w c) m (way_high u w c uw) covers.1) covers.2 z0 le in
    let least : (neg_ℤ p *ℤ z) ≤ℤ (top *ℤ m) = at_depth (neg_ℤ p) m z top (ordered (neg_ℤ p) (left c) m (way_low u c u0) covers.0) covers.2 z0 le in
    let q = floor_div (top *ℤ m) f in
    let is = floor_is (top *ℤ m) f f1 in
    let at = floor_is (p *ℤ z) f f1 in
    let high : ray_axis f c u z ≤ℤ q = floor_below (p *ℤ z) f (ray_axis f c u z) q f1 at (past (p *ℤ z) (top *ℤ m) (f *ℤ q +ℤ f) most is.above) in
    let low : (neg_ℤ (q +ℤ pos 1)) ≤ℤ ray_axis f c u z = floor_above (p *ℤ z) f (ray_axis f c u z) (neg_ℤ (q +ℤ pos 1)) f1 at
    (under (p *ℤ z) (neg_ℤ p *ℤ z) (top *ℤ m) (f *ℤ q) f (f *ℤ (q +ℤ pos 1)) (f *ℤ pos 1) (f *ℤ neg_ℤ (q +ℤ pos 1)) (neg_mul p z) least is.above (mul_sum f q (pos 1)) (omega (arith, ints)) (mul_neg f (q +ℤ pos 1))) in
    ended q (ray_axis f c u z) high low
  where
    ordered : (a b c : ℤ) → a ≤ℤ b → b ≤ℤ c → a ≤ℤ c
    ordered a b c h k = omega (arith, ints)

    way_high : (u w c : ℤ) → u <ℤ w → (pos 65536 *ℤ u -ℤ c) ≤ℤ right w c
    way_high u w c h = omega (arith, ints)

    way_low : (u c : ℤ) → pos 0 ≤ℤ u → (neg_ℤ (pos 65536 *ℤ u -ℤ c)) ≤ℤ left c
    way_low u c h = omega (arith, ints)

    past : (a b c : ℤ) → a ≤ℤ b → b <ℤ c → a <ℤ c
    past a b c h k = omega (arith, ints)

    neg_mul : (p z : ℤ) → neg_ℤ p *ℤ z ≡ neg_ℤ (p *ℤ z)
    neg_mul p z = omega (arith, ints, mul_neg z p)

    under : (pz nz tm fq f fq1 f1 fn : ℤ) → nz ≡ neg_ℤ pz → nz ≤ℤ tm → tm <ℤ (fq +ℤ f) → fq1 ≡ fq +ℤ f1 → f1 ≡ f → fn ≡ neg_ℤ fq1 → fn ≤ℤ pz
    under pz nz tm fq f fq1 f1 fn a b c d e g = omega (arith, ints)

    ended : (q x : ℤ) → x ≤ℤ q → (neg_ℤ (q +ℤ pos 1)) ≤ℤ x → IsWithin (q +ℤ pos 1) x
    ended q x h k = record { low = omega (arith, ints); high = omega (arith, ints) }

-- the point of a pixel's ray, at most at the greatest depth, is within the reach
pub ray_bounds : (k : CameraFields) (u v z : ℤ) → HasRanges k → pos 0 ≤ℤ u → u <ℤ k.width → pos 0 ≤ℤ v → v <ℤ k.height → pos 1 ≤ℤ z → z ≤ℤ max_depth k → IsWithin (reach_x k) (ray k u v z).x × IsWithin (reach_y k) (ray k u v z).y
ray_bounds k u v z r u0 uw v0 vh front back = (
  ray_within k.fx k.cx k.width u z (max_depth k) r.fx r.cx u0 uw front back,
  ray_within k.fy k.cy k.height v z (max_depth k) r.fy r.cy v0 vh front back,
)

-- so it is within 17 metres on each axis
pub ray_near : (k : CameraFields) (u v z : ℤ) → HasRanges k → HasReach k → pos 0 ≤ℤ u → u <ℤ k.width → pos 0 ≤ℤ v → v <ℤ k.height → pos 1 ≤ℤ z → z ≤ℤ max_depth k → AreWithin (pos 17000000) (ray k u v z)
ray_near k u v z r h u0 uw v0 vh front back =
    let b = ray_bounds k u v z r u0 uw v0 vh front back in
    record {
      x = within_more (reach_x k) (pos 17000000) (ray k u v z).x b.0 h.x;
      y = within_more (reach_y k) (pos 17000000) (ray k u v z).y b.1 h.y;
      z = deep z k.far k.mu front back r.far_high r.mu_high;
    }
  where
    within_more : (n m z : ℤ) → IsWithin n z → n ≤ℤ m → IsWithin m z
    within_more n m z w le = record { low = omega (arith, ints); high = omega (arith, ints) }

    deep : (z far mu : ℤ) → pos 1 ≤ℤ z → z ≤ℤ (far +ℤ mu) → far ≤ℤ pos 16000000 → mu ≤ℤ pos 1000000 → IsWithin (pos 17000000) z
    deep z far mu a b c d = record { low = omega (arith, ints); high = omega (arith, ints) }

-- and its world point within 151006226 of the origin
pub ray_world : (k : CameraFields) (m : Pose) (u v z : ℤ) → HasRanges k → HasReach k → HasPoseRange m → pos 0 ≤ℤ u → u <ℤ k.width → pos 0 ≤ℤ v → v <ℤ k.height → pos 1 ≤ℤ z → z ≤ℤ max_depth k → AreWithin (pos 151006226) (world m (ray k u v z))
ray_world k m u v z r h o u0 uw v0 vh front back = world_bound m (ray k u v z) o (ray_near k u v z r h u0 uw v0 vh front back)

-- a column of a depth map is one of the camera's image, and so is a row
pub column_inside : (u w : ℕ) (k : ℤ) → pos w ≡ k → u < w → pos u <ℤ k
column_inside u w k e h = omega (arith, ints)

-- a depth that a camera takes
pub record IsShown (k : CameraFields) (d : ℤ) : Type 0 where
  pub near : pos 1 ≤ℤ d
  pub far : d ≤ℤ k.far
  pub far_high : d ≤ℤ pos 16000000

-- the depth of a sample is one
pub is_shown : (k : CameraFields) (raw : ℕ) (d : ℤ) → HasRanges k → depth_of k raw ≡ Some d → IsShown k d
is_shown k raw d r e = by (raw == 0) (within k.near k.far (pos raw *ℤ k.unit)) refl e
  where
    by : (none takes : Bool) → within k.near k.far (pos raw *ℤ k.unit) ≡ takes → cond none None (cond takes (Some (pos raw *ℤ k.unit)) None) ≡ Some d → IsShown k d
    by true takes t e = absurd (cc)
    by false false t e = absurd (cc)
    by false true t e =
        let same : pos raw *ℤ k.unit ≡ d = cc in
        let z = within_parts k.near k.far (pos raw *ℤ k.unit) t in
        let near : k.near ≤ℤ d = subst (λ (x : ℤ). k.near ≤ℤ x) same z.0 in
        let far : d ≤ℤ k.far = subst (λ (x : ℤ). x ≤ℤ k.far) same z.1 in
        record { near = omega (arith, ints, r.near); far = far; far_high = omega (arith, ints, r.far_high) }
