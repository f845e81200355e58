-- The parts of blocks that walks read.
use Rattle.std.proofs.Common.{◌≡◌, ℕ, ◌+◌, ◌*◌, ◌/◌, ◌%◌, ◌<◌, ◌≤◌, ◌↔◌, Bool, true, false, refl, sym, subst, arith}
use Rattle.std.specs.Prelude.{ℤ, pos, neg_ℤ, ◌+ℤ◌, ◌-ℤ◌, ◌*ℤ◌, ◌≤ℤ◌, ◌<ℤ◌, IsTrue}
use Rattle.std.proofs.lemmas.Int.{ints, by_lt_z}
use Rattle.fixed_geom.specs.declared.vector.Vec3.{Vec3}
use Rattle.fixed_geom.specs.Vectors.{IsWithin}
use Rattle.fixed_geom.specs.Poses.{Pose, IsPose, world}
use Rattle.fixed_geom.proofs.Whole.{mul_sum, mul_order}
use Rattle.fixed_geom.specs.Division.{floor_div}
use Rattle.fixed_geom.proofs.Floors.{floor_is}
use Rattle.voxel_block.specs.declared.key.BlockKey.{BlockKey}
use Rattle.voxel_block.specs.Parts.{part_of}
use Rattle.camera.specs.declared.camera.CameraFields.{CameraFields}
use Rattle.camera.specs.Cameras.{IsCamera, ray}
use Rattle.camera.specs.Grid.{block_of_voxel, index_of_voxel, nearest_axis, offset_axis}
use Rattle.camera.proofs.RayLemmas.{ray_world}
use Rattle.camera.proofs.RayBack.{pixel_of}
use Rattle.ray_walk.specs.Points.{point_depth}
use Rattle.ray_walk.proofs.PointLemmas.{depth_far, depth_front, far_deep}
use Rattle.ray_ranges.specs.Cubes.{IsEnd, IsFrom, IsInCube, IsNearCube, IsReadable, part_least}
use Rattle.ray_ranges.specs.Boxes.{HasNoPoint, IsNearby}
use Rattle.ray_ranges.proofs.CubeLemmas.{middle_is, near_middle}

-- what a half of a block adds
half_small : (p : ℕ) → 4 * (p % 2) ≤ 4
half_small p = omega (arith)

-- on one axis: where a block starts, and where a part of it does
part_start : (s b : ℤ) (h : ℕ) → s *ℤ (pos 8 *ℤ b +ℤ pos h) ≡ (s *ℤ (pos 8 *ℤ b)) +ℤ (s *ℤ pos h)
part_start s b h = mul_sum s (pos 8 *ℤ b) (pos h)

half_start : (s : ℤ) (h : ℕ) → pos 0 ≤ℤ s → h ≤ 4 → (pos 0 ≤ℤ (s *ℤ pos h)) × ((s *ℤ pos h) ≤ℤ (s *ℤ pos 4))
half_start s h s0 le = (plain (s *ℤ pos 0) (s *ℤ pos h) (omega (arith, ints)) (mul_order s (pos 0) (pos h) s0 (omega (arith, ints))), mul_order s (pos h) (pos 4) s0 (omega (arith, ints)))
  where
    plain : (z sh : ℤ) → z ≡ pos 0 → z ≤ℤ sh → pos 0 ≤ℤ sh
    plain z sh e h = omega (arith, ints)

-- a block that begins within 152 metres has a coordinate of at most 152000 voxels
few_voxels : (s n : ℤ) → pos 1000 ≤ℤ s → IsWithin (pos 152000000) (s *ℤ n) → IsWithin (pos 152000) n
few_voxels s n s1 w = record {
  low = by_lt_z n (neg_ℤ (pos 152000))
      (λ (l : n <ℤ neg_ℤ (pos 152000)). absurd (under s (s *ℤ n) (s *ℤ neg_ℤ (pos 152001)) s1 (omega (arith, ints)) (mul_order s n (neg_ℤ (pos 152001)) (omega (arith, ints)) (omega (arith, ints, l))) w.low))
      (λ (h : neg_ℤ (pos 152000) ≤ℤ n). h);
  high = by_lt_z (pos 152000) n
      (λ (l : pos 152000 <ℤ n). absurd (over s (s *ℤ n) (s *ℤ pos 152001) s1 (omega (arith, ints)) (mul_order s (pos 152001) n (omega (arith, ints)) (omega (arith, ints, l))) w.high))
      (λ (h : n ≤ℤ pos 152000). h);
}
  where
    under : (s a b : ℤ) → pos 1000 ≤ℤ s → b ≡ neg_ℤ (pos 152001 *ℤ s) → a ≤ℤ b → (neg_ℤ (pos 152000000)) ≤ℤ a → ⊥
    under s a b h e i j = omega (arith, ints)

    over : (s a b : ℤ) → pos 1000 ≤ℤ s → b ≡ pos 152001 *ℤ s → b ≤ℤ a → a ≤ℤ pos 152000000 → ⊥
    over s a b h e i j = omega (arith, ints)

key_axis : (s b : ℤ) (h : ℕ) → pos 1000 ≤ℤ s → h ≤ 4 → IsWithin (pos 152000000) (s *ℤ (pos 8 *ℤ b)) → IsWithin (pos 262144) (pos 8 *ℤ b +ℤ pos h)
key_axis s b h s1 le w = plain (pos 8 *ℤ b) h (few_voxels s (pos 8 *ℤ b) s1 w) le
  where
    plain : (n : ℤ) (h : ℕ) → IsWithin (pos 152000) n → h ≤ 4 → IsWithin (pos 262144) (n +ℤ pos h)
    plain n h w le = record { low = omega (arith, ints, w.low); high = omega (arith, ints, w.high) }

start_axis : (s b : ℤ) (h : ℕ) → pos 1000 ≤ℤ s → s ≤ℤ pos 100000 → h ≤ 4 → IsWithin (pos 152000000) (s *ℤ (pos 8 *ℤ b)) → IsWithin (pos 154000000) (s *ℤ (pos 8 *ℤ b +ℤ pos h))
start_axis s b h s1 s5 le w =
    let p = half_start s h (omega (arith, ints)) le in
    plain s (s *ℤ (pos 8 *ℤ b +ℤ pos h)) (s *ℤ (pos 8 *ℤ b)) (s *ℤ pos h) (s *ℤ pos 4) (part_start s b h) p.0 p.1 (omega (arith, ints)) s5 w
  where
    plain : (s a b c d : ℤ) → a ≡ b +ℤ c → pos 0 ≤ℤ c → c ≤ℤ d → d ≡ pos 4 *ℤ s → s ≤ℤ pos 100000 → IsWithin (pos 152000000) b → IsWithin (pos 154000000) a
    plain s a b c d e h i f j w = record { low = omega (arith, ints, w.low); high = omega (arith, ints, w.high) }

-- the parts of a block that walks may read are near enough for a box
pub part_nearby : (s : ℤ) (b : BlockKey) (p : ℕ) → pos 1000 ≤ℤ s → s ≤ℤ pos 100000 → IsReadable s b → IsNearby s (part_least b p)
part_nearby s b p s1 s5 r = record {
  key = record { x = key_axis s b.x (4 * (p % 2)) s1 (half_small p) r.x; y = key_axis s b.y (4 * (p / 2 % 2)) s1 (half_small (p / 2)) r.y; z = key_axis s b.z (4 * (p / 4 % 2)) s1 (half_small (p / 4)) r.z };
  start = record { x = start_axis s b.x (4 * (p % 2)) s1 s5 (half_small p) r.x; y = start_axis s b.y (4 * (p / 2 % 2)) s1 s5 (half_small (p / 2)) r.y; z = start_axis s b.z (4 * (p / 4 % 2)) s1 s5 (half_small (p / 4)) r.z };
}

-- on one axis: a block with a part that the nearest voxel of a world point is in begins within 152 metres
readable_axis : (s p b : ℤ) (h : ℕ) → pos 1000 ≤ℤ s → s ≤ℤ pos 100000 → h ≤ 4 → IsWithin (pos 151006226) p → IsFrom (pos 8 *ℤ b +ℤ pos h) (pos 8 *ℤ b +ℤ pos h +ℤ pos 4 -ℤ pos 1) (nearest_axis s p) → IsWithin (pos 152000000) (s *ℤ (pos 8 *ℤ b))
readable_axis s p b h s1 s5 le w at =
    let l = pos 8 *ℤ b +ℤ pos h in
    let s0 : pos 1 ≤ℤ s = omega (arith, ints) in
    let near = near_middle s p (pos 0) l (pos 4) (nearest_axis s p) s0 (floor_is (pos 2 *ℤ p +ℤ s) (pos 2 *ℤ s) (omega (arith, ints))) at in
    let q = half_start s h (omega (arith, ints)) le in
    plain s p (s *ℤ (pos 2 *ℤ l +ℤ pos 4 -ℤ pos 1)) (s *ℤ l) (s *ℤ pos 4) (s *ℤ (pos 8 *ℤ b)) (s *ℤ pos h) (middle_is s l (pos 4)) (part_start s b h) q.0 q.1 (omega (arith, ints)) s5 (omega (arith, ints)) w near
  where
    plain : (s p m sl s4 sb sh : ℤ) → m ≡ (pos 2 *ℤ sl) +ℤ s4 -ℤ s → sl ≡ sb +ℤ sh → pos 0 ≤ℤ sh → sh ≤ℤ s4 → s4 ≡ pos 4 *ℤ s → s ≤ℤ pos 100000 → pos 0 ≤ℤ s → IsWithin (pos 151006226) p → IsWithin s4 (pos 2 *ℤ (p -ℤ pos 0) -ℤ (m -ℤ pos 2 *ℤ pos 0)) → IsWithin (pos 152000000) sb
    plain s p m sl s4 sb sh e f a c g s5 s0 w v = record { low = omega (arith, ints, w.low, w.high, v.low, v.high); high = omega (arith, ints, w.low, w.high, v.low, v.high) }

-- a part that a walk reads is one of a block that begins within 152 metres
pub part_readable : (k : CameraFields) (m : Pose) (b : BlockKey) (p u v j : ℕ) → IsCamera k → IsPose m → IsEnd k u v j → IsNearCube k m (part_least b p) (pos 4) u v j → IsReadable k.voxel b
part_readable k m b p u v j o w end at =
    let i = end.point in
    let z = point_depth k j in
    let x = pixel_of k u v i.column i.row in
    let far = ray_world k m (pos u) (pos v) z o.ranges o.reach w.range x.u_low x.u_high x.v_low x.v_high (depth_front k j o.ranges) (far_deep k z o.ranges (depth_far k j o.ranges i.point)) in
    let q = world m (ray k (pos u) (pos v) z) in
    record {
      x = readable_axis k.voxel q.x b.x (4 * (p % 2)) o.ranges.voxel o.ranges.voxel_high (half_small p) far.x at.x;
      y = readable_axis k.voxel q.y b.y (4 * (p / 2 % 2)) o.ranges.voxel o.ranges.voxel_high (half_small (p / 2)) far.y at.y;
      z = readable_axis k.voxel q.z b.z (4 * (p / 4 % 2)) o.ranges.voxel o.ranges.voxel_high (half_small (p / 4)) far.z at.z;
    }

-- ---- the part that a voxel is in

offset_is : (c : ℤ) → c ≡ pos 8 *ℤ floor_div c (pos 8) +ℤ pos (offset_axis c)
offset_is c = let i = floor_is c (pos 8) (omega (arith, ints)) in omega (arith, ints, i.below)

offset_small : (c : ℤ) → offset_axis c < 8
offset_small c = let i = floor_is c (pos 8) (omega (arith, ints)) in omega (arith, ints, i.below, i.above)

-- the halves of an index are those of its offsets
half_x : (x y z : ℕ) → x < 8 → y < 8 → part_of (x + 8 * y + 64 * z) % 2 ≡ x / 4
half_x x y z a b = omega arith

half_y : (x y z : ℕ) → x < 8 → y < 8 → z < 8 → part_of (x + 8 * y + 64 * z) / 2 % 2 ≡ y / 4
half_y x y z a b c = omega arith

half_z : (x y z : ℕ) → x < 8 → y < 8 → z < 8 → part_of (x + 8 * y + 64 * z) / 4 % 2 ≡ z / 4
half_z x y z a b c = omega arith

in_half : (c b : ℤ) (o h : ℕ) → c ≡ pos 8 *ℤ b +ℤ pos o → h ≡ o / 4 → IsFrom (pos 8 *ℤ b +ℤ pos (4 * h)) (pos 8 *ℤ b +ℤ pos (4 * h) +ℤ pos 4 -ℤ pos 1) c
in_half c b o h e f = record { low = omega (arith, ints); high = omega (arith, ints) }

pub in_part : (c : Vec3) → IsInCube (part_least (block_of_voxel c) (part_of (index_of_voxel c))) (pos 4) c
in_part c =
    let a = offset_small c.x in
    let b = offset_small c.y in
    let d = offset_small c.z in
    record {
      x = in_half c.x (floor_div c.x (pos 8)) (offset_axis c.x) (part_of (index_of_voxel c) % 2) (offset_is c.x) (half_x (offset_axis c.x) (offset_axis c.y) (offset_axis c.z) a b);
      y = in_half c.y (floor_div c.y (pos 8)) (offset_axis c.y) (part_of (index_of_voxel c) / 2 % 2) (offset_is c.y) (half_y (offset_axis c.x) (offset_axis c.y) (offset_axis c.z) a b d);
      z = in_half c.z (floor_div c.z (pos 8)) (offset_axis c.z) (part_of (index_of_voxel c) / 4 % 2) (offset_is c.z) (half_z (offset_axis c.x) (offset_axis c.y) (offset_axis c.z) a b d);
    }

pub part_small : (c : Vec3) → part_of (index_of_voxel c) < 8
part_small c = plain (offset_axis c.x) (offset_axis c.y) (offset_axis c.z) (offset_small c.x) (offset_small c.y) (offset_small c.z)
  where
    plain : (x y z : ℕ) → x < 8 → y < 8 → z < 8 → part_of (x + 8 * y + 64 * z) < 8
    plain x y z a b c = omega arith

-- ---- as the code finds it

untold : (b : Bool) → b ≡ false → IsTrue b → ⊥
untold b e h = absurd (cc)

-- the test of the last axis, after those of the others
pub three_axes : (s s' : ℤ) (b : BlockKey) (x' y' z' : ℤ) (x y z : Bool) → s' ≡ s → x' ≡ b.x → y' ≡ b.y → z' ≡ b.z → x ≡ true → y ≡ true
    → IsTrue x ↔ IsWithin (pos 152000000) (s' *ℤ (pos 8 *ℤ x')) → IsTrue y ↔ IsWithin (pos 152000000) (s' *ℤ (pos 8 *ℤ y')) → IsTrue z ↔ IsWithin (pos 152000000) (s' *ℤ (pos 8 *ℤ z')) → IsTrue z ↔ IsReadable s b
three_axes s s' b x' y' z' x y z es ex ey ez tx ty hx hy hz = (
  λ t. record {
    x = moved b.x x' ex (hx.0 tx);
    y = moved b.y y' ey (hy.0 ty);
    z = moved b.z z' ez (hz.0 t);
  },
  λ r. hz.1 (back b.z z' ez r.z),
)
  where
    moved : (n n' : ℤ) → n' ≡ n → IsWithin (pos 152000000) (s' *ℤ (pos 8 *ℤ n')) → IsWithin (pos 152000000) (s *ℤ (pos 8 *ℤ n))
    moved n n' e w = rw (← es, ← e) w

    back : (n n' : ℤ) → n' ≡ n → IsWithin (pos 152000000) (s *ℤ (pos 8 *ℤ n)) → IsWithin (pos 152000000) (s' *ℤ (pos 8 *ℤ n'))
    back n n' e w = rw (es, e) w

-- one axis that fails is enough
pub one_axis : (s s' : ℤ) (b : BlockKey) (n n' : ℤ) (t : Bool) → s' ≡ s → n' ≡ n → t ≡ false → IsTrue t ↔ IsWithin (pos 152000000) (s' *ℤ (pos 8 *ℤ n')) → (IsReadable s b → IsWithin (pos 152000000) (s *ℤ (pos 8 *ℤ n))) → IsTrue false ↔ IsReadable s b
one_axis s s' b n n' t es en e h own = (λ none. absurd (untold false refl none), λ r. absurd (untold t e (h.1 (rw (es, en) (own r)))))

-- so a block that is not readable has no part that a walk reads
pub none_read : (k : CameraFields) (m : Pose) (b : BlockKey) (p : ℕ) (s : ℤ) (t : Bool) → IsCamera k → IsPose m → s ≡ k.voxel → t ≡ false → IsTrue t ↔ IsReadable s b → HasNoPoint k m (part_least b p) (pos 4)
none_read k m b p s t o w es e h = λ u v j end at. absurd (untold t e (h.1 (subst (λ (z : ℤ). IsReadable z b) (sym es) (part_readable k m b p u v j o w end at))))

pub read_part : (k : CameraFields) (b : BlockKey) (p : ℕ) (s : ℤ) (t : Bool) → IsCamera k → s ≡ k.voxel → t ≡ true → IsTrue t ↔ IsReadable s b → IsNearby k.voxel (part_least b p)
read_part k b p s t o es e h = part_nearby k.voxel b p o.ranges.voxel o.ranges.voxel_high (subst (λ (z : ℤ). IsReadable z b) es (h.0 e))
