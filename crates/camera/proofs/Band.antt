-- The band: a block that the segment between two points of a pixel's ray goes through is active, and its coordinates fit 16 bits.
use Rattle.std.proofs.Common.{◌≡◌, sym, ap, ◌∙◌, arith}
use Rattle.std.specs.Prelude.{ℤ, pos, neg_ℤ, ◌+ℤ◌, ◌-ℤ◌, ◌*ℤ◌, ◌≤ℤ◌, ◌<ℤ◌, IsTrue}
use Rattle.std.proofs.lemmas.Int.{ints, by_lt_z}
use Rattle.fixed_geom.specs.Division.{IsFloor, floor_div}
use Rattle.fixed_geom.specs.declared.vector.Vec3.{Vec3}
use Rattle.fixed_geom.specs.Vectors.{IsWithin, AreWithin, vec}
use Rattle.fixed_geom.specs.Poses.{Pose, cam, world, IsPose, HasPoseRange}
use Rattle.fixed_geom.proofs.Whole.{mul_sum, sum_mul, mul_turn, mul_group, mul_order, mul_difference, difference_mul}
use Rattle.fixed_geom.proofs.Floors.{floor_is, cancel}
use Rattle.fixed_geom.proofs.Segments.{mul_swap, along, IsBetween, AreBetween, near_segment, lower_sum, upper_sum}
use Rattle.voxel_block.specs.declared.key.BlockKey.{BlockKey}
use Rattle.camera.specs.declared.camera.CameraFields.{CameraFields}
use Rattle.camera.specs.Grid.{centre_of, block_at, is_key}
use Rattle.camera.specs.Cameras.{within, HasRanges, HasReach, FitsSphere, max_depth, reach_x, reach_y, opening_margin, ray, is_active}
use Rattle.camera.specs.Visibility.{IsPiercedAxis, IsPiercedAt, IsInReach, IsNearBlock, sample_of}
use Rattle.camera.proofs.RangeLemmas.{between, is_between}
use Rattle.camera.proofs.RayLemmas.{ray_world}
use Rattle.camera.proofs.Keys.{key_holds}
use Rattle.camera.proofs.Active.{wide_drift, in_sphere, depth_within, opening_margin_large}
use Rattle.camera.proofs.RayBack.{IsPixel, pixel_bounds, ray_back}

-- ---- products of a block's border

-- q times the centre of block b
centre_times : (s b q : ℤ) → q *ℤ ((pos 8 *ℤ b +ℤ pos 4) *ℤ s) ≡ (pos 8 *ℤ s *ℤ b) *ℤ q +ℤ pos 4 *ℤ (s *ℤ q)
centre_times s b q =
    plain (q *ℤ ((pos 8 *ℤ b +ℤ pos 4) *ℤ s)) (q *ℤ (pos 8 *ℤ b *ℤ s)) (q *ℤ (pos 4 *ℤ s)) ((pos 8 *ℤ s *ℤ b) *ℤ q) (q *ℤ s) (s *ℤ q)
    (ap (λ (z : ℤ). q *ℤ z) (sum_mul (pos 8 *ℤ b) (pos 4) s) ∙ mul_sum q (pos 8 *ℤ b *ℤ s) (pos 4 *ℤ s))
    (mul_turn q (pos 8 *ℤ b *ℤ s) ∙ ap (λ (z : ℤ). z *ℤ q) (mul_group (pos 8) b s ∙ ap (λ (z : ℤ). pos 8 *ℤ z) (mul_turn b s) ∙ sym (mul_group (pos 8) s b)))
    (mul_swap q (pos 4) s) (mul_turn q s)
  where
    plain : (l x y z u v : ℤ) → l ≡ x +ℤ y → x ≡ z → y ≡ pos 4 *ℤ u → u ≡ v → l ≡ z +ℤ pos 4 *ℤ v
    plain l x y z u v a b c d = omega (arith, ints)

-- q times the next border
border_times : (s b q : ℤ) → (pos 8 *ℤ s *ℤ (b +ℤ pos 1)) *ℤ q ≡ (pos 8 *ℤ s *ℤ b) *ℤ q +ℤ pos 8 *ℤ (s *ℤ q)
border_times s b q =
    ap (λ (z : ℤ). z *ℤ q) (mul_sum (pos 8 *ℤ s) b (pos 1)) ∙ sum_mul (pos 8 *ℤ s *ℤ b) (pos 8 *ℤ s *ℤ pos 1) q
    ∙ ap (λ (z : ℤ). (pos 8 *ℤ s *ℤ b) *ℤ q +ℤ z) (ap (λ (z : ℤ). z *ℤ q) (one s) ∙ mul_group (pos 8) s q)
  where
    one : (s : ℤ) → pos 8 *ℤ s *ℤ pos 1 ≡ pos 8 *ℤ s
    one s = omega (arith, ints)

-- a pierced block's centre is within 4 s of the segment's point, times q
centre_off : (s p q a e b : ℤ) → IsPiercedAxis s p q a e b → IsWithin (pos 4 *ℤ (s *ℤ q)) (q *ℤ ((pos 8 *ℤ b +ℤ pos 4) *ℤ s) -ℤ along p q a e)
centre_off s p q a e b i = plain (q *ℤ ((pos 8 *ℤ b +ℤ pos 4) *ℤ s)) ((pos 8 *ℤ s *ℤ b) *ℤ q) ((pos 8 *ℤ s *ℤ (b +ℤ pos 1)) *ℤ q) (s *ℤ q) (along p q a e) (centre_times s b q) (border_times s b q) i.low i.high
  where
    plain : (c l h t n : ℤ) → c ≡ l +ℤ pos 4 *ℤ t → h ≡ l +ℤ pos 8 *ℤ t → l ≤ℤ n → n <ℤ h → IsWithin (pos 4 *ℤ t) (c -ℤ n)
    plain c l h t n a b i j = record { low = omega (arith, ints); high = omega (arith, ints) }

-- the block of a sampled point is pierced: the point k steps of n along the segment, each coordinate by floor
pub sampled_is_pierced : (s k n a e f b : ℤ) → pos 1 ≤ℤ n → IsFloor (k *ℤ (e -ℤ a)) n f → IsFloor (a +ℤ f) (pos 8 *ℤ s) b → IsPiercedAxis s k n a e b
sampled_is_pierced s k n a e f b n1 i j =
    let n0 : pos 0 ≤ℤ n = omega (arith, ints) in
    let low = mul_order n (pos 8 *ℤ s *ℤ b) (a +ℤ f) n0 j.below in
    let high = mul_order n (a +ℤ f +ℤ pos 1) (pos 8 *ℤ s *ℤ b +ℤ pos 8 *ℤ s) n0 (next (a +ℤ f) (pos 8 *ℤ s *ℤ b +ℤ pos 8 *ℤ s) j.above) in
    let top : (pos 8 *ℤ s *ℤ (b +ℤ pos 1)) *ℤ n ≡ n *ℤ (pos 8 *ℤ s *ℤ b +ℤ pos 8 *ℤ s) = mul_turn (pos 8 *ℤ s *ℤ (b +ℤ pos 1)) n ∙ ap (λ (z : ℤ). n *ℤ z) (mul_sum (pos 8 *ℤ s) b (pos 1) ∙ one (pos 8 *ℤ s *ℤ b) (pos 8 *ℤ s)) in
    record {
      low = low_plain (n *ℤ (pos 8 *ℤ s *ℤ b)) ((pos 8 *ℤ s *ℤ b) *ℤ n) (n *ℤ (a +ℤ f)) (n *ℤ a) (n *ℤ f) (a *ℤ n) (k *ℤ (e -ℤ a)) low (mul_turn (pos 8 *ℤ s *ℤ b) n) (mul_sum n a f) (mul_turn a n) i.below;
      high = high_plain (n *ℤ (pos 8 *ℤ s *ℤ b +ℤ pos 8 *ℤ s)) ((pos 8 *ℤ s *ℤ (b +ℤ pos 1)) *ℤ n) (n *ℤ (a +ℤ f +ℤ pos 1)) (n *ℤ (a +ℤ f)) (n *ℤ pos 1) (n *ℤ a) (n *ℤ f) (a *ℤ n) (k *ℤ (e -ℤ a)) n high top (mul_sum n (a +ℤ f) (pos 1)) (omega (arith, ints)) (mul_sum n a f) (mul_turn a n) i.above;
    }
  where
    next : (x y : ℤ) → x <ℤ y → (x +ℤ pos 1) ≤ℤ y
    next x y h = omega (arith, ints)

    one : (x y : ℤ) → x +ℤ y *ℤ pos 1 ≡ x +ℤ y
    one x y = omega (arith, ints)

    low_plain : (x x' y na nf an d : ℤ) → x ≤ℤ y → x' ≡ x → y ≡ na +ℤ nf → an ≡ na → nf ≤ℤ d → x' ≤ℤ (an +ℤ d)
    low_plain x x' y na nf an d a b c e f = omega (arith, ints)

    high_plain : (x x' y z n1 na nf an d n : ℤ) → y ≤ℤ x → x' ≡ x → y ≡ z +ℤ n1 → n1 ≡ n → z ≡ na +ℤ nf → an ≡ na → d <ℤ (nf +ℤ n) → (an +ℤ d) <ℤ x'
    high_plain x x' y z n1 na nf an d n a b c e f g h = omega (arith, ints)

-- ---- activity

ends_within : (r d x y : ℤ) → IsWithin r x → IsWithin d (y -ℤ x) → IsBetween (neg_ℤ (r +ℤ d)) (r +ℤ d) y
ends_within r d x y v w = record { low = omega (arith, ints); high = omega (arith, ints) }

depth_between : (d x y top : ℤ) → pos 1 ≤ℤ x → x ≤ℤ top → IsWithin d (y -ℤ x) → IsBetween (pos 1 -ℤ d) (top +ℤ d) y
depth_between d x y top a b w = record { low = omega (arith, ints); high = omega (arith, ints) }

-- the bounds of the camera points of a ray's world points
abbrev ends_low : CameraFields → Vec3
ends_low k = vec (neg_ℤ (reach_x k +ℤ wide_drift k)) (neg_ℤ (reach_y k +ℤ wide_drift k)) (pos 1 -ℤ wide_drift k)

abbrev ends_high : CameraFields → Vec3
ends_high k = vec (reach_x k +ℤ wide_drift k) (reach_y k +ℤ wide_drift k) (max_depth k +ℤ wide_drift k)

end_between : (k : CameraFields) (m : Pose) (u v z : ℤ) → HasRanges k → IsPose m → IsPixel k u v → pos 1 ≤ℤ z → z ≤ℤ max_depth k → AreBetween (ends_low k) (ends_high k) (cam m (world m (ray k u v z)))
end_between k m u v z r o i front back =
    let c = ray k u v z in
    let p = cam m (world m c) in
    let b = pixel_bounds k u v z r i front back in
    let w = ray_back k m u v z r o i front back in
    record {
      x = ends_within (reach_x k) (wide_drift k) c.x p.x b.0 w.x;
      y = ends_within (reach_y k) (wide_drift k) c.y p.y b.1 w.y;
      z = depth_between (wide_drift k) z p.z (max_depth k) front back w.z;
    }

-- a block that the segment between two points of a pixel's ray pierces is active
pub band_is_active : (k : CameraFields) (m : Pose) (u v y z p q : ℤ) (b : BlockKey) → HasRanges k → FitsSphere k → IsPose m → IsPixel k u v → pos 1 ≤ℤ y → y ≤ℤ max_depth k → pos 1 ≤ℤ z → z ≤ℤ max_depth k
    → IsPiercedAt k.voxel p q (world m (ray k u v y)) (world m (ray k u v z)) b → IsTrue (is_active k m b)
band_is_active k m u v y z p q b r h o i y1 yd z1 zd at =
    let s = k.voxel in
    let s0 : pos 0 ≤ℤ s = omega (arith, ints, r.voxel) in
    let a = world m (ray k u v y) in
    let e = world m (ray k u v z) in
    let c = cam m (centre_of s b) in
    let bounds = pixel_bounds k u v y r i y1 yd in
    let large = opening_margin_large k (ray k u v y).x (ray k u v y).y r bounds.0 bounds.1 in
    let n = near_segment m a e (centre_of s b) (ends_low k) (ends_high k) s p q o.range s0 at.divisor at.start at.finish
    (record { x = centre_off s p q a.x e.x b.x at.x; y = centre_off s p q a.y e.y b.y at.y; z = centre_off s p q a.z e.z b.z at.z })
    (end_between k m u v y r o i y1 yd) (end_between k m u v z r o i z1 zd) in
    let more = fewer s (wide_drift k) (opening_margin k) s0 large.1 in
    in_sphere k c h (side (reach_x k) (wide_drift k) s (opening_margin k) c.x more n.x) (side (reach_y k) (wide_drift k) s (opening_margin k) c.y more n.y)
    (depth_within (max_depth k) k.centre c.z (opening_margin k) r.centre (front (wide_drift k) s (opening_margin k) c.z (max_depth k) more n.z) (back (wide_drift k) s (opening_margin k) c.z (max_depth k) more n.z))
  where
    fewer : (s d m : ℤ) → pos 0 ≤ℤ s → m ≡ pos 14 *ℤ s +ℤ d +ℤ pos 8 → (d +ℤ pos 13 *ℤ s) ≤ℤ m
    fewer s d m h e = omega (arith, ints)

    side : (r d s m c : ℤ) → (d +ℤ pos 13 *ℤ s) ≤ℤ m → IsBetween (neg_ℤ (r +ℤ d) -ℤ pos 13 *ℤ s) (r +ℤ d +ℤ pos 13 *ℤ s) c → IsWithin (r +ℤ m) c
    side r d s m c h i = record { low = omega (arith, ints); high = omega (arith, ints) }

    front : (d s m c top : ℤ) → (d +ℤ pos 13 *ℤ s) ≤ℤ m → IsBetween (pos 1 -ℤ d -ℤ pos 13 *ℤ s) (top +ℤ d +ℤ pos 13 *ℤ s) c → (pos 1 -ℤ m) ≤ℤ c
    front d s m c top h i = omega (arith, ints)

    back : (d s m c top : ℤ) → (d +ℤ pos 13 *ℤ s) ≤ℤ m → IsBetween (pos 1 -ℤ d -ℤ pos 13 *ℤ s) (top +ℤ d +ℤ pos 13 *ℤ s) c → c ≤ℤ (top +ℤ m)
    back d s m c top h i = omega (arith, ints)

-- ---- keys

-- the segment's point, times q, by weights
along_is : (p q a e : ℤ) → along p q a e ≡ (q -ℤ p) *ℤ a +ℤ p *ℤ e
along_is p q a e = plain (a *ℤ q) (q *ℤ a) (p *ℤ (e -ℤ a)) (p *ℤ e) (p *ℤ a) ((q -ℤ p) *ℤ a) (mul_turn a q) (mul_difference p e a) (difference_mul q p a)
  where
    plain : (aq qa pea pe pa w : ℤ) → aq ≡ qa → pea ≡ pe -ℤ pa → w ≡ qa -ℤ pa → aq +ℤ pea ≡ w +ℤ pe
    plain aq qa pea pe pa w a b c = omega (arith, ints)

-- a block whose border is at most 151006226 has a coordinate of at most 18875
key_high : (s b : ℤ) → pos 1000 ≤ℤ s → (pos 8 *ℤ s *ℤ b) ≤ℤ pos 151006226 → b ≤ℤ pos 18875
key_high s b s1 h = by_lt_z (pos 18875) b
    (λ (l : pos 18875 <ℤ b). absurd (plain s (pos 8 *ℤ s *ℤ b) s1 h (mul_order (pos 8 *ℤ s) (pos 18876) b (omega (arith, ints)) (omega (arith, ints)))))
    (λ (m : b ≤ℤ pos 18875). m)
  where
    plain : (s x : ℤ) → pos 1000 ≤ℤ s → x ≤ℤ pos 151006226 → (pos 8 *ℤ s *ℤ pos 18876) ≤ℤ x → ⊥
    plain s x a b c = omega (arith, ints)

key_low : (s b : ℤ) → pos 1000 ≤ℤ s → (neg_ℤ (pos 151006226)) ≤ℤ (pos 8 *ℤ s *ℤ (b +ℤ pos 1)) → (neg_ℤ (pos 18876)) ≤ℤ b
key_low s b s1 h = by_lt_z b (neg_ℤ (pos 18876))
    (λ (l : b <ℤ neg_ℤ (pos 18876)). absurd (plain s (pos 8 *ℤ s *ℤ (b +ℤ pos 1)) s1 h (mul_order (pos 8 *ℤ s) (b +ℤ pos 1) (neg_ℤ (pos 18876)) (omega (arith, ints)) (omega (arith, ints)))))
    (λ (m : neg_ℤ (pos 18876) ≤ℤ b). m)
  where
    plain : (s x : ℤ) → pos 1000 ≤ℤ s → (neg_ℤ (pos 151006226)) ≤ℤ x → x ≤ℤ (pos 8 *ℤ s *ℤ neg_ℤ (pos 18876)) → ⊥
    plain s x a b c = omega (arith, ints)

-- one axis: the borders of a pierced block, where the ends are within 151006226 of the origin
borders : (s p q a e b : ℤ) → pos 0 ≤ℤ p → p ≤ℤ q → pos 1 ≤ℤ q → IsWithin (pos 151006226) a → IsWithin (pos 151006226) e → IsPiercedAxis s p q a e b → ((neg_ℤ (pos 151006226)) ≤ℤ (pos 8 *ℤ s *ℤ (b +ℤ pos 1))) × ((pos 8 *ℤ s *ℤ b) ≤ℤ pos 151006226)
borders s p q a e b p0 pq q1 ia ie i =
    let n = (q -ℤ p) *ℤ a +ℤ p *ℤ e in
    let low = lower_sum p q a e (neg_ℤ (pos 151006226)) p0 pq ia.low ie.low in
    let high = upper_sum p q a e (pos 151006226) p0 pq ia.high ie.high in (
      cancel q (neg_ℤ (pos 151006226)) (pos 8 *ℤ s *ℤ (b +ℤ pos 1)) q1 (low_plain (q *ℤ neg_ℤ (pos 151006226)) n (along p q a e) ((pos 8 *ℤ s *ℤ (b +ℤ pos 1)) *ℤ q) (q *ℤ (pos 8 *ℤ s *ℤ (b +ℤ pos 1))) q low (along_is p q a e) i.high (mul_turn (pos 8 *ℤ s *ℤ (b +ℤ pos 1)) q) q1),
      cancel q (pos 8 *ℤ s *ℤ b) (pos 151006226) q1 (high_plain (q *ℤ pos 151006226) n (along p q a e) ((pos 8 *ℤ s *ℤ b) *ℤ q) (q *ℤ (pos 8 *ℤ s *ℤ b)) q high (along_is p q a e) i.low (mul_turn (pos 8 *ℤ s *ℤ b) q) q1),
    )
  where
    low_plain : (l n o h h' q : ℤ) → l ≤ℤ n → o ≡ n → o <ℤ h → h ≡ h' → pos 1 ≤ℤ q → l <ℤ (h' +ℤ q)
    low_plain l n o h h' q a b c d e = omega (arith, ints)

    high_plain : (u n o l l' q : ℤ) → n ≤ℤ u → o ≡ n → l ≤ℤ o → l ≡ l' → pos 1 ≤ℤ q → l' <ℤ (u +ℤ q)
    high_plain u n o l l' q a b c d e = omega (arith, ints)

-- one coordinate of a pierced block
block_axis_between : (s p q a e b : ℤ) → pos 1000 ≤ℤ s → pos 0 ≤ℤ p → p ≤ℤ q → pos 1 ≤ℤ q → IsWithin (pos 151006226) a → IsWithin (pos 151006226) e → IsPiercedAxis s p q a e b → IsBetween (neg_ℤ (pos 18876)) (pos 18875) b
block_axis_between s p q a e b s1 p0 pq q1 ia ie i =
    let t = borders s p q a e b p0 pq q1 ia ie i in
    record { low = key_low s b s1 t.0; high = key_high s b s1 t.1 }

-- the lowest corner of a pierced block is within 151806226 of the origin, on one axis
pierced_corner : (s p q a e b : ℤ) → pos 0 ≤ℤ s → s ≤ℤ pos 100000 → pos 0 ≤ℤ p → p ≤ℤ q → pos 1 ≤ℤ q → IsWithin (pos 151006226) a → IsWithin (pos 151006226) e → IsPiercedAxis s p q a e b → IsWithin (pos 1073741824) (pos 8 *ℤ s *ℤ b)
pierced_corner s p q a e b s0 s1 p0 pq q1 ia ie i =
    let t = borders s p q a e b p0 pq q1 ia ie i in
    plain s (pos 8 *ℤ s *ℤ b) (pos 8 *ℤ s *ℤ (b +ℤ pos 1)) (pos 8 *ℤ s *ℤ pos 1) (mul_sum (pos 8 *ℤ s) b (pos 1)) (omega (arith, ints)) s0 s1 t.0 t.1
  where
    plain : (s x y z : ℤ) → y ≡ x +ℤ z → z ≡ pos 8 *ℤ s → pos 0 ≤ℤ s → s ≤ℤ pos 100000 → (neg_ℤ (pos 151006226)) ≤ℤ y → x ≤ℤ pos 151006226 → IsWithin (pos 1073741824) x
    plain s x y z e f a b c d = record { low = omega (arith, ints); high = omega (arith, ints) }

within_key : (z : ℤ) → IsBetween (neg_ℤ (pos 18876)) (pos 18875) z → IsTrue (within (neg_ℤ (pos 18876)) (pos 18875) z)
within_key z i = is_between (neg_ℤ (pos 18876)) (pos 18875) z i.low i.high

-- a block that a segment between two points near the origin pierces has small coordinates
pub pierced_is_near : (s p q : ℤ) (a e : Vec3) (b : BlockKey) → pos 1000 ≤ℤ s → AreWithin (pos 151006226) a → AreWithin (pos 151006226) e → IsPiercedAt s p q a e b → IsNearBlock b
pierced_is_near s p q a e b s1 ia ie i = record {
  x = within_key b.x (block_axis_between s p q a.x e.x b.x s1 i.start i.finish i.divisor ia.x ie.x i.x);
  y = within_key b.y (block_axis_between s p q a.y e.y b.y s1 i.start i.finish i.divisor ia.y ie.y i.y);
  z = within_key b.z (block_axis_between s p q a.z e.z b.z s1 i.start i.finish i.divisor ia.z ie.z i.z);
}

-- such coordinates fit 16 bits
pub near_has_key : (b : BlockKey) → IsNearBlock b → IsTrue (is_key b)
near_has_key b i =
    let x = between (neg_ℤ (pos 18876)) (pos 18875) b.x i.x in
    let y = between (neg_ℤ (pos 18876)) (pos 18875) b.y i.y in
    let z = between (neg_ℤ (pos 18876)) (pos 18875) b.z i.z in
    key_holds b (low b.x x.0) (high b.x x.1) (low b.y y.0) (high b.y y.1) (low b.z z.0) (high b.z z.1)
  where
    low : (z : ℤ) → (neg_ℤ (pos 18876)) ≤ℤ z → (neg_ℤ (pos 18876)) ≤ℤ z
    low z h = h

    high : (z : ℤ) → z ≤ℤ pos 18875 → z ≤ℤ pos 18876
    high z h = omega (arith, ints)

-- a block that the segment between two points of a pixel's ray pierces has small coordinates
pub band_is_near : (k : CameraFields) (m : Pose) (u v y z p q : ℤ) (b : BlockKey) → HasRanges k → HasReach k → HasPoseRange m → IsPixel k u v → pos 1 ≤ℤ y → y ≤ℤ max_depth k → pos 1 ≤ℤ z → z ≤ℤ max_depth k
    → IsPiercedAt k.voxel p q (world m (ray k u v y)) (world m (ray k u v z)) b → IsNearBlock b
band_is_near k m u v y z p q b r h o i y1 yd z1 zd at =
    pierced_is_near k.voxel p q (world m (ray k u v y)) (world m (ray k u v z)) b r.voxel (ray_world k m u v y r h o i.u_low i.u_high i.v_low i.v_high y1 yd) (ray_world k m u v z r h o i.u_low i.u_high i.v_low i.v_high z1 zd) at

-- and its lowest corner is within 2^30 of the origin on each axis
pub band_is_in_reach : (k : CameraFields) (m : Pose) (u v y z p q : ℤ) (b : BlockKey) → HasRanges k → HasReach k → HasPoseRange m → IsPixel k u v → pos 1 ≤ℤ y → y ≤ℤ max_depth k → pos 1 ≤ℤ z → z ≤ℤ max_depth k
    → IsPiercedAt k.voxel p q (world m (ray k u v y)) (world m (ray k u v z)) b → IsInReach k.voxel b
band_is_in_reach k m u v y z p q b r h o i y1 yd z1 zd at =
    let s = k.voxel in
    let a = world m (ray k u v y) in
    let e = world m (ray k u v z) in
    let s0 : pos 0 ≤ℤ s = omega (arith, ints, r.voxel) in
    let ia = ray_world k m u v y r h o i.u_low i.u_high i.v_low i.v_high y1 yd in
    let ie = ray_world k m u v z r h o i.u_low i.u_high i.v_low i.v_high z1 zd in
    record {
      x = pierced_corner s p q a.x e.x b.x s0 r.voxel_high at.start at.finish at.divisor ia.x ie.x at.x;
      y = pierced_corner s p q a.y e.y b.y s0 r.voxel_high at.start at.finish at.divisor ia.y ie.y at.y;
      z = pierced_corner s p q a.z e.z b.z s0 r.voxel_high at.start at.finish at.divisor ia.z ie.z at.z;
    }

-- the block of a sample of a segment is pierced
pub sample_is_pierced : (s j n : ℤ) (a e : Vec3) → pos 1 ≤ℤ s → pos 0 ≤ℤ j → j ≤ℤ n → pos 1 ≤ℤ n → IsPiercedAt s j n a e (block_at s (sample_of j n a e))
sample_is_pierced s j n a e s1 j0 jn n1 = record {
  start = j0;
  finish = jn;
  divisor = n1;
  x = axis a.x e.x;
  y = axis a.y e.y;
  z = axis a.z e.z;
}
  where
    size : pos 1 ≤ℤ (pos 8 *ℤ s)
    size = omega (arith, ints)

    axis : (x y : ℤ) → IsPiercedAxis s j n x y (floor_div (x +ℤ floor_div (j *ℤ (y -ℤ x)) n) (pos 8 *ℤ s))
    axis x y = sampled_is_pierced s j n x y (floor_div (j *ℤ (y -ℤ x)) n) (floor_div (x +ℤ floor_div (j *ℤ (y -ℤ x)) n) (pos 8 *ℤ s)) n1 (floor_is (j *ℤ (y -ℤ x)) n n1) (floor_is (x +ℤ floor_div (j *ℤ (y -ℤ x)) n) (pos 8 *ℤ s) size)
