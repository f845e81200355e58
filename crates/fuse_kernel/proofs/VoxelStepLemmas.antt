-- The scaled camera coordinates of a block's voxels: which they are, by steps, and how large they may be.
use Rattle.std.proofs.Common.{◌≡◌, ℕ, ◌+◌, ◌*◌, ◌/◌, ◌%◌, ◌<◌, sym, ap, ◌∙◌, subst, refl, arith}
use Rattle.std.specs.Prelude.{ℤ, pos, neg_ℤ, ◌+ℤ◌, ◌-ℤ◌, ◌*ℤ◌, ◌≤ℤ◌, IsTrue}
use Rattle.std.specs.Int.{int_max, int_min}
use Rattle.std.proofs.lemmas.Int.{ints, clamps}
use Rattle.std.proofs.lemmas.Bool.{and_parts}
use Rattle.fixed_geom.specs.declared.vector.Vec3.{Vec3}
use Rattle.fixed_geom.specs.Division.{IsFloor, floor_div}
use Rattle.fixed_geom.specs.Vectors.{IsWithin, AreWithin, dot, minus}
use Rattle.fixed_geom.specs.Poses.{Pose, IsPose, cam, cam_axis, cam_q30_axis, unit, column_x, column_y, column_z}
use Rattle.fixed_geom.proofs.Dots.{cam_q30_axis_difference, within_product, unit_positive}
use Rattle.fixed_geom.proofs.Floors.{floor_is, floor_above}
use Rattle.fixed_geom.proofs.Whole.{difference_mul, mul_group, mul_neg, mul_turn, sum_mul}
use Rattle.voxel_block.specs.declared.key.BlockKey.{BlockKey}
use Rattle.camera.specs.declared.camera.CameraFields.{CameraFields}
use Rattle.camera.specs.Cameras.{HasRanges, HasReach, IsCamera, max_depth, half, left, reach_axis, right}
use Rattle.camera.specs.Grid.{centre_of, point_of}
use Rattle.camera.specs.Visibility.{is_at_depth, is_between_sides, is_in_view, margin, is_visible, is_visible_at, side_depth}
use Rattle.camera.proofs.Offsets.{voxel_step}
use Rattle.camera.proofs.RangeLemmas.{is_at_most}
use Rattle.camera.proofs.RayLemmas.{at_depth, half_covers}
use Rattle.camera.proofs.Readings.{read}
use Rattle.fuse_kernel.specs.declared.near_cam_q30.NearCamQ30.{NearCamQ30}
use Rattle.fuse_kernel.specs.declared.voxel_steps.VoxelSteps.{VoxelSteps}
use Rattle.fuse_kernel.proofs.Machine.{plain_read}
use Rattle.fuse_kernel.specs.VoxelSteps.{NearCamQ30Within, HasStepBounds, cam_q30_at_axis, cam_q30_at, cam_q30_of, voxel_point_by, point_by, stepped, voxel_steps_of}

-- ---- by steps

-- how far a voxel is from the corner, on one axis of the block
from_corner : (s b x : ℤ) → (pos 8 *ℤ b +ℤ x) *ℤ s -ℤ (pos 8 *ℤ b +ℤ pos 0) *ℤ s ≡ x *ℤ s
from_corner s b x = sym (difference_mul (pos 8 *ℤ b +ℤ x) (pos 8 *ℤ b +ℤ pos 0) s) ∙ ap (λ (z : ℤ). z *ℤ s) (less (pos 8 *ℤ b) x)
  where
    less : (n x : ℤ) → (n +ℤ x) -ℤ (n +ℤ pos 0) ≡ x
    less n x = omega (arith, ints)

-- what it adds to a coordinate
one_axis : (c s b x : ℤ) → c *ℤ ((pos 8 *ℤ b +ℤ x) *ℤ s -ℤ (pos 8 *ℤ b +ℤ pos 0) *ℤ s) ≡ x *ℤ (s *ℤ c)
one_axis c s b x = ap (λ (z : ℤ). c *ℤ z) (from_corner s b x) ∙ mul_turn c (x *ℤ s) ∙ mul_group x s c

added : (p q d a b c a' b' c' : ℤ) → p -ℤ q ≡ d → d ≡ a +ℤ b +ℤ c → a ≡ a' → b ≡ b' → c ≡ c' → q +ℤ a' +ℤ b' +ℤ c' ≡ p
added p q d a b c a' b' c' e f g h i = omega (arith, ints)

-- a coordinate of a voxel, by the corner's
cam_q30_at_axis_is : (c t : Vec3) (s : ℤ) (b : BlockKey) (x y z : ℤ) → cam_q30_at_axis (cam_q30_axis c t (voxel_point_by s b (pos 0) (pos 0) (pos 0))) (s *ℤ c.x) (s *ℤ c.y) (s *ℤ c.z) x y z ≡ cam_q30_axis c t (voxel_point_by s b x y z)
cam_q30_at_axis_is c t s b x y z =
    let p = voxel_point_by s b x y z in
    let q = voxel_point_by s b (pos 0) (pos 0) (pos 0) in
    added (cam_q30_axis c t p) (cam_q30_axis c t q) (dot c (minus p q)) (c.x *ℤ (p.x -ℤ q.x)) (c.y *ℤ (p.y -ℤ q.y)) (c.z *ℤ (p.z -ℤ q.z)) (x *ℤ (s *ℤ c.x)) (y *ℤ (s *ℤ c.y)) (z *ℤ (s *ℤ c.z))
    (cam_q30_axis_difference c t p q) refl (one_axis c.x s b.x x) (one_axis c.y s b.y y) (one_axis c.z s b.z z)

-- all three of them
pub cam_q30_at_is : (s : ℤ) (m : Pose) (b : BlockKey) (x y z : ℤ) → cam_q30_at (voxel_steps_of s m b) x y z ≡ cam_q30_of m (voxel_point_by s b x y z)
cam_q30_at_is s m b x y z =
    let e = cam_q30_at_axis_is (column_x m) m.t s b x y z in
    let f = cam_q30_at_axis_is (column_y m) m.t s b x y z in
    let g = cam_q30_at_axis_is (column_z m) m.t s b x y z in
    λ k. record { x = e k; y = f k; z = g k }

-- the voxel point, by its row
pub voxel_point_is : (s : ℤ) (b : BlockKey) (row x : ℕ) → x < 8 → voxel_point_by s b (pos x) (pos (row % 8)) (pos (row / 8)) ≡ point_of s b (8 * row + x)
voxel_point_is s b row x h =
    let e : x ≡ (8 * row + x) % 8 = omega arith in
    let f : row % 8 ≡ (8 * row + x) / 8 % 8 = omega arith in
    let g : row / 8 ≡ (8 * row + x) / 64 = omega arith in
    λ k. voxel_point_by s b (pos (e k)) (pos (f k)) (pos (g k))

-- the camera point of a voxel
pub point_at_is : (s : ℤ) (m : Pose) (b : BlockKey) (row x : ℕ) (a : VoxelSteps) (f : NearCamQ30) (p : Vec3) → x < 8 → a ≡ voxel_steps_of s m b → f ≡ cam_q30_at a (pos x) (pos (row % 8)) (pos (row / 8)) → p ≡ point_by f → p ≡ cam m (point_of s b (8 * row + x))
point_at_is s m b row x a f p h steps near_cam_q30 point =
    point
    ∙ ap point_by (near_cam_q30 ∙ ap (λ (a : VoxelSteps). cam_q30_at a (pos x) (pos (row % 8)) (pos (row / 8))) steps ∙ cam_q30_at_is s m b (pos x) (pos (row % 8)) (pos (row / 8)))
    ∙ ap (cam m) (voxel_point_is s b row x h)

-- one more step along x
cam_q30_at_axis_more : (k a b c x y z : ℤ) → cam_q30_at_axis k a b c x y z +ℤ a ≡ cam_q30_at_axis k a b c (x +ℤ pos 1) y z
cam_q30_at_axis_more k a b c x y z = sum (x *ℤ a) ((x +ℤ pos 1) *ℤ a) (y *ℤ b) (z *ℤ c) k a (sum_mul x (pos 1) a)
  where
    sum : (xa xa' yb zc k a : ℤ) → xa' ≡ xa +ℤ pos 1 *ℤ a → k +ℤ xa +ℤ yb +ℤ zc +ℤ a ≡ k +ℤ xa' +ℤ yb +ℤ zc
    sum xa xa' yb zc k a e = omega (arith, ints)

pub cam_q30_more : (a : VoxelSteps) (f g : NearCamQ30) (x : ℕ) (y z : ℤ) → f ≡ cam_q30_at a (pos x) y z → g ≡ stepped f a.x → g ≡ cam_q30_at a (pos (x + 1)) y z
cam_q30_more a f g x y z now next =
    let next_place : pos x +ℤ pos 1 ≡ pos (x + 1) = omega (arith, ints) in
    let e = cam_q30_at_axis_more a.corner.x a.x.x a.y.x a.z.x (pos x) y z in
    let h = cam_q30_at_axis_more a.corner.y a.x.y a.y.y a.z.y (pos x) y z in
    let i = cam_q30_at_axis_more a.corner.z a.x.z a.y.z a.z.z (pos x) y z in
    let more : stepped (cam_q30_at a (pos x) y z) a.x ≡ cam_q30_at a (pos x +ℤ pos 1) y z = λ k. record { x = e k; y = h k; z = i k } in
    next ∙ ap (λ (f : NearCamQ30). stepped f a.x) now ∙ more ∙ ap (λ (x : ℤ). cam_q30_at a x y z) next_place

-- ---- how large they may be

cam_q30_at_axis_within : (k a b c x y z : ℤ) → IsWithin (pos 36028797018963968) k → IsWithin (pos 140737488355328) a → IsWithin (pos 140737488355328) b → IsWithin (pos 140737488355328) c
    → IsWithin (pos 8) x → IsWithin (pos 8) y → IsWithin (pos 8) z → IsWithin (pos 72057594037927936) (cam_q30_at_axis k a b c x y z)
cam_q30_at_axis_within k a b c x y z wk wa wb wc wx wy wz =
    sum k (x *ℤ a) (y *ℤ b) (z *ℤ c) wk
    (within_product (pos 8) (pos 140737488355328) x a wx wa)
    (within_product (pos 8) (pos 140737488355328) y b wy wb)
    (within_product (pos 8) (pos 140737488355328) z c wz wc)
  where
    sum : (k p q r : ℤ) → IsWithin (pos 36028797018963968) k → IsWithin (pos 1125899906842624) p → IsWithin (pos 1125899906842624) q → IsWithin (pos 1125899906842624) r → IsWithin (pos 72057594037927936) (k +ℤ p +ℤ q +ℤ r)
    sum k p q r wk wp wq wr = record { low = omega (arith, ints); high = omega (arith, ints) }

pub eight : (n : ℕ) → n < 9 → IsWithin (pos 8) (pos n)
eight n h = record { low = omega (arith, ints); high = omega (arith, ints) }

-- those of a row's voxels are within 2^56
pub cam_q30_within : (a : VoxelSteps) (row x : ℕ) (f : NearCamQ30) → HasStepBounds a → row < 64 → x < 9 → f ≡ cam_q30_at a (pos x) (pos (row % 8)) (pos (row / 8)) → NearCamQ30Within (pos 72057594037927936) f
cam_q30_within a row x f short rows below is =
    let p = eight x below in
    let q = eight (row % 8) (omega arith) in
    let r = eight (row / 8) (omega arith) in
    let c = short.corner in
    subst (NearCamQ30Within (pos 72057594037927936)) (sym is)
    (record {
      x = cam_q30_at_axis_within a.corner.x a.x.x a.y.x a.z.x (pos x) (pos (row % 8)) (pos (row / 8)) c.x short.x.x short.y.x short.z.x p q r;
      y = cam_q30_at_axis_within a.corner.y a.x.y a.y.y a.z.y (pos x) (pos (row % 8)) (pos (row / 8)) c.y short.x.y short.y.y short.z.y p q r;
      z = cam_q30_at_axis_within a.corner.z a.x.z a.y.z a.z.z (pos x) (pos (row % 8)) (pos (row / 8)) c.z short.x.z short.y.z short.z.z p q r;
    })

-- a coordinate of a row's first voxel, as the machine reads it
pub row_read : (r k a b c y z : ℤ) (n p : ℕ) → r ≡ read k +ℤ read y *ℤ read b +ℤ read z *ℤ read c → IsWithin (pos 36028797018963968) k → IsWithin (pos 140737488355328) b → IsWithin (pos 140737488355328) c
    → y ≡ pos n → z ≡ pos p → n < 9 → p < 9 → read r ≡ cam_q30_at_axis k a b c (pos 0) (pos n) (pos p)
row_read r k a b c y z n p e wk wb wc ey ez hn hp =
    let one : read k ≡ k = plain_read (pos 36028797018963968) k (omega (arith, ints)) wk in
    let two : read b ≡ b = plain_read (pos 140737488355328) b (omega (arith, ints)) wb in
    let three : read c ≡ c = plain_read (pos 140737488355328) c (omega (arith, ints)) wc in
    let four : read y ≡ pos n = small y n ey hn in
    let five : read z ≡ pos p = small z p ez hp in
    let is : r ≡ k +ℤ pos n *ℤ b +ℤ pos p *ℤ c = e ∙ rw (one, two, three, four, five) refl in
    let same : k +ℤ pos n *ℤ b +ℤ pos p *ℤ c ≡ cam_q30_at_axis k a b c (pos 0) (pos n) (pos p) = none k a (pos n *ℤ b) (pos p *ℤ c) in
    let w : IsWithin (pos 72057594037927936) r = subst (IsWithin (pos 72057594037927936)) (sym is) (sum k (pos n *ℤ b) (pos p *ℤ c) wk (within_product (pos 8) (pos 140737488355328) (pos n) b (eight n hn) wb) (within_product (pos 8) (pos 140737488355328) (pos p) c (eight p hp) wc)) in
    plain_read (pos 72057594037927936) r (omega (arith, ints)) w ∙ is ∙ same
  where
    small : (y : ℤ) (n : ℕ) → y ≡ pos n → n < 9 → read y ≡ pos n
    small y n e h = omega (arith, ints)

    none : (k a p q : ℤ) → k +ℤ p +ℤ q ≡ k +ℤ pos 0 *ℤ a +ℤ p +ℤ q
    none k a p q = omega (arith, ints)

    sum : (k p q : ℤ) → IsWithin (pos 36028797018963968) k → IsWithin (pos 1125899906842624) p → IsWithin (pos 1125899906842624) q → IsWithin (pos 72057594037927936) (k +ℤ p +ℤ q)
    sum k p q wk wp wq = record { low = omega (arith, ints); high = omega (arith, ints) }

-- ---- the corner of a visible block

-- what the test of the sides says, on one axis
sides_say : (f c w n x h top : ℤ) → pos 1 ≤ℤ f → pos 0 ≤ℤ c → pos 0 ≤ℤ h → h ≤ℤ top → IsTrue (is_between_sides f c w n x h) → IsWithin (reach_axis top f w c +ℤ n) x
sides_say f c w n x h top f1 c0 h0 le t =
    let m = half w c in
    let r = int_max (pos 0) (right w c) in
    let covers = half_covers w c c0 in
    let parts = and_parts _ _ t in
    let low = is_at_most (neg_ℤ (left c *ℤ h)) (f *ℤ (x +ℤ n)) parts.0 in
    let high = is_at_most (f *ℤ (x -ℤ n)) (r *ℤ h) parts.1 in
    let a : (left c *ℤ h) ≤ℤ (top *ℤ m) = at_depth (left c) m h top covers.0 covers.2 h0 le in
    let b : (r *ℤ h) ≤ℤ (top *ℤ m) = at_depth r m h top (largest (right w c) m covers.1 covers.2) covers.2 h0 le in
    let is = floor_is (top *ℤ m) f f1 in
    let q = floor_div (top *ℤ m) f in
    ended x q n
    (floor_above (top *ℤ m) f q (x -ℤ n) f1 is (ordered (f *ℤ (x -ℤ n)) (r *ℤ h) (top *ℤ m) high b))
    (floor_above (top *ℤ m) f q (neg_ℤ (x +ℤ n)) f1 is (turned (f *ℤ (x +ℤ n)) (f *ℤ neg_ℤ (x +ℤ n)) (left c *ℤ h) (top *ℤ m) low a (mul_neg f (x +ℤ n))))
  where
    largest : (r m : ℤ) → r ≤ℤ m → pos 0 ≤ℤ m → int_max (pos 0) r ≤ℤ m
    largest r m h k = omega (arith, ints, clamps)

    ordered : (a b c : ℤ) → a ≤ℤ b → b ≤ℤ c → a ≤ℤ c
    ordered a b c h k = omega (arith, ints)

    turned : (p p' l t : ℤ) → (neg_ℤ l) ≤ℤ p → l ≤ℤ t → p' ≡ neg_ℤ p → p' ≤ℤ t
    turned p p' l t h k e = omega (arith, ints)

    ended : (x q n : ℤ) → (x -ℤ n) ≤ℤ q → (neg_ℤ (x +ℤ n)) ≤ℤ q → IsWithin ((q +ℤ pos 1) +ℤ n) x
    ended x q n h k = record { low = omega (arith, ints); high = omega (arith, ints) }

-- a depth that the test looks at
shallow : (z n top : ℤ) → pos 1 ≤ℤ (z +ℤ n) → pos 0 ≤ℤ top → (pos 0 ≤ℤ int_min (z +ℤ n) top) × (int_min (z +ℤ n) top ≤ℤ top)
shallow z n top h k = omega (arith, ints, clamps)

bounded : (reach s x : ℤ) → reach ≤ℤ pos 17000000 → pos 0 ≤ℤ s → s ≤ℤ pos 100000 → IsWithin (reach +ℤ pos 14 *ℤ s) x → IsWithin (pos 18400000) x
bounded reach s x r low high w = record { low = omega (arith, ints); high = omega (arith, ints) }

bounded_depth : (far mu s z : ℤ) → far ≤ℤ pos 16000000 → mu ≤ℤ pos 1000000 → pos 0 ≤ℤ s → s ≤ℤ pos 100000 → pos 1 ≤ℤ (z +ℤ pos 14 *ℤ s) → (z -ℤ pos 14 *ℤ s) ≤ℤ (far +ℤ mu) → IsWithin (pos 18400000) z
bounded_depth far mu s z a b low high h k = record { low = omega (arith, ints); high = omega (arith, ints) }

-- the centre of a visible block is near the camera
centre_near : (k : CameraFields) (c : Vec3) → HasRanges k → HasReach k → IsTrue (is_visible_at k c) → AreWithin (pos 18400000) c
centre_near k c r reach t =
    let n = margin k in
    let s0 : pos 0 ≤ℤ k.voxel = omega (arith, ints, r.voxel) in
    let top0 : pos 0 ≤ℤ max_depth k = omega (arith, ints, r.near, r.far, r.voxel, r.mu) in
    let parts = and_parts (is_at_depth k c.z) (is_in_view k c) t in
    let depth = and_parts _ _ parts.0 in
    let view = and_parts (is_between_sides k.fx k.cx k.width n c.x (side_depth k c.z)) (is_between_sides k.fy k.cy k.height n c.y (side_depth k c.z)) parts.1 in
    let front = is_at_most (pos 1) (c.z +ℤ n) depth.0 in
    let back = is_at_most (c.z -ℤ n) (max_depth k) depth.1 in
    let h = shallow c.z n (max_depth k) front top0 in
    record {
      x = bounded _ k.voxel c.x reach.x s0 r.voxel_high (sides_say k.fx k.cx k.width n c.x (side_depth k c.z) (max_depth k) r.fx r.cx h.0 h.1 view.0);
      y = bounded _ k.voxel c.y reach.y s0 r.voxel_high (sides_say k.fy k.cy k.height n c.y (side_depth k c.z) (max_depth k) r.fy r.cy h.0 h.1 view.1);
      z = bounded_depth k.far k.mu k.voxel c.z r.far_high r.mu_high s0 r.voxel_high front back;
    }

-- a coordinate is bounded by its floor
cam_q30_axis_within : (a q near s : ℤ) → IsFloor a unit q → IsWithin (pos 18400000) near → pos 0 ≤ℤ s → s ≤ℤ pos 100000 → IsWithin (pos 13 *ℤ s) (q -ℤ near) → IsWithin (pos 36028797018963968) a
cam_q30_axis_within a q near s is w low high v =
    let p : IsWithin (pos 19700000) q = moved q near s w low high v in
    record { low = omega (arith, ints, is.below, p.low); high = omega (arith, ints, is.above, p.high) }
  where
    moved : (q near s : ℤ) → IsWithin (pos 18400000) near → pos 0 ≤ℤ s → s ≤ℤ pos 100000 → IsWithin (pos 13 *ℤ s) (q -ℤ near) → IsWithin (pos 19700000) q
    moved q near s w low high v = record { low = omega (arith, ints); high = omega (arith, ints) }

-- those of a voxel of a visible block are within 2^55
pub visible_cam_q30 : (k : CameraFields) (m : Pose) (b : BlockKey) (i : ℕ) → IsCamera k → IsPose m → i < 512 → IsTrue (is_visible k m b) → NearCamQ30Within (pos 36028797018963968) (cam_q30_of m (point_of k.voxel b i))
visible_cam_q30 k m b i o w below visible =
    let p = point_of k.voxel b i in
    let c = cam m (centre_of k.voxel b) in
    let r = o.ranges in
    let s0 : pos 0 ≤ℤ k.voxel = omega (arith, ints, r.voxel) in
    let near = centre_near k c r o.reach visible in
    let step = voxel_step m k.voxel b i w.range s0 below in
    record {
      x = cam_q30_axis_within (cam_q30_axis (column_x m) m.t p) (cam_axis (column_x m) m.t p) c.x k.voxel (floor_is (cam_q30_axis (column_x m) m.t p) unit unit_positive) near.x s0 r.voxel_high step.x;
      y = cam_q30_axis_within (cam_q30_axis (column_y m) m.t p) (cam_axis (column_y m) m.t p) c.y k.voxel (floor_is (cam_q30_axis (column_y m) m.t p) unit unit_positive) near.y s0 r.voxel_high step.y;
      z = cam_q30_axis_within (cam_q30_axis (column_z m) m.t p) (cam_axis (column_z m) m.t p) c.z k.voxel (floor_is (cam_q30_axis (column_z m) m.t p) unit unit_positive) near.z s0 r.voxel_high step.z;
    }
