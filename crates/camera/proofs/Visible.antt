-- No voxel of a block that is not visible is met: where a voxel is met, its block is visible.
use Rattle.std.proofs.Common.{◌≡◌, ◌<◌, ℕ, Bool, true, false, refl, sym, ◌∙◌, arith}
use Rattle.std.specs.Prelude.{ℤ, pos, neg_ℤ, ◌+ℤ◌, ◌-ℤ◌, ◌*ℤ◌, ◌≤ℤ◌, ◌<ℤ◌, ◌&&◌, IsTrue}
use Rattle.std.specs.Int.{int_max, int_min}
use Rattle.std.proofs.lemmas.Int.{ints, clamps}
use Rattle.std.proofs.lemmas.Bool.{false≢true}
use Rattle.fixed_geom.specs.declared.vector.Vec3.{Vec3}
use Rattle.fixed_geom.specs.Vectors.{IsWithin, AreWithin, minus}
use Rattle.fixed_geom.specs.Poses.{Pose, cam, HasPoseRange}
use Rattle.fixed_geom.proofs.Whole.{mul_turn, mul_order}
use Rattle.voxel_block.specs.declared.key.BlockKey.{BlockKey}
use Rattle.camera.specs.declared.camera.CameraFields.{CameraFields}
use Rattle.camera.specs.Grid.{point_of, centre_of}
use Rattle.camera.specs.Cameras.{HasRanges, left, right, max_depth}
use Rattle.camera.specs.Visibility.{IsMet, IsMetAt, MeetsNone, margin, side_depth, is_at_depth, is_between_sides, is_in_view, is_visible_at, is_visible}
use Rattle.camera.proofs.RangeLemmas.{at_most}
use Rattle.camera.proofs.Inside.{inside_low, inside_high, projects_inside}
use Rattle.camera.proofs.Offsets.{voxel_step}

-- the left side at the block's depth
low_test : (f l x q s z h : ℤ) → pos 1 ≤ℤ f → pos 0 ≤ℤ l → (neg_ℤ (l *ℤ z)) ≤ℤ (f *ℤ x) → x ≤ℤ (q +ℤ s) → z ≤ℤ h → (neg_ℤ (l *ℤ h)) ≤ℤ (f *ℤ (q +ℤ s))
low_test f l x q s z h f1 l0 in_left near deep =
    joined (l *ℤ z) (l *ℤ h) (f *ℤ x) (f *ℤ (q +ℤ s)) in_left (mul_order l z h l0 deep) (mul_order f x (q +ℤ s) (omega (arith, ints)) near)
  where
    joined : (lz lh fx fq : ℤ) → (neg_ℤ lz) ≤ℤ fx → lz ≤ℤ lh → fx ≤ℤ fq → (neg_ℤ lh) ≤ℤ fq
    joined lz lh fx fq a b c = omega (arith, ints)

larger : (r : ℤ) → (r ≤ℤ int_max (pos 0) r) × (pos 0 ≤ℤ int_max (pos 0) r)
larger r = omega (arith, ints, clamps)

-- the right side at the block's depth
high_test : (f r x q s z h : ℤ) → pos 1 ≤ℤ f → pos 0 ≤ℤ z → (f *ℤ x) <ℤ (r *ℤ z) → (q -ℤ s) ≤ℤ x → z ≤ℤ h → (f *ℤ (q -ℤ s)) ≤ℤ (int_max (pos 0) r *ℤ h)
high_test f r x q s z h f1 z0 in_right near deep =
    let m = int_max (pos 0) r in
    let more = larger r in
    joined (f *ℤ (q -ℤ s)) (f *ℤ x) (r *ℤ z) (z *ℤ r) (z *ℤ m) (m *ℤ z) (m *ℤ h) in_right (mul_order f (q -ℤ s) x (omega (arith, ints)) near) (mul_turn r z) (mul_order z r m z0 more.0) (mul_turn z m) (mul_order m z h more.1 deep)
  where
    joined : (fq fx rz zr zm mz mh : ℤ) → fx <ℤ rz → fq ≤ℤ fx → rz ≡ zr → zr ≤ℤ zm → zm ≡ mz → mz ≤ℤ mh → fq ≤ℤ mh
    joined fq fx rz zr zm mz mh a b c d e g = omega (arith, ints)

shallow : (z q s top : ℤ) → z ≤ℤ (q +ℤ s) → z ≤ℤ top → z ≤ℤ int_min (q +ℤ s) top
shallow z q s top h k = omega (arith, ints, clamps)

close_up : (n s x q : ℤ) → pos 0 ≤ℤ s → n ≡ pos 13 *ℤ s → IsWithin n (x -ℤ q) → (x ≤ℤ (q +ℤ pos 14 *ℤ s)) × ((q -ℤ pos 14 *ℤ s) ≤ℤ x)
close_up n s x q h e w = omega (arith, ints)

both_hold : (a b : Bool) → a ≡ true → b ≡ true → IsTrue (a && b)
both_hold a b e f = rw (e, f) refl

ordered : (a b c : ℤ) → a ≤ℤ b → b ≤ℤ c → a ≤ℤ c
ordered a b c h k = omega (arith, ints)

raised : (c : ℤ) → pos 0 ≤ℤ c → pos 0 ≤ℤ (c +ℤ pos 32768)
raised c h = omega (arith, ints)

-- both sides, on one axis: n is the margin
sides_hold : (f c w n x q z h : ℤ) → pos 1 ≤ℤ f → pos 0 ≤ℤ c → pos 0 ≤ℤ z → (neg_ℤ (left c *ℤ z)) ≤ℤ (f *ℤ x) → (f *ℤ x) <ℤ (right w c *ℤ z) → x ≤ℤ (q +ℤ n) → (q -ℤ n) ≤ℤ x → z ≤ℤ h → IsTrue (is_between_sides f c w n q h)
sides_hold f c w n x q z h f1 c0 z0 in_left in_right below above deep =
    both_hold _ _
    (at_most _ _ (low_test f (left c) x q n z h f1 (raised c c0) in_left below deep))
    (at_most _ _ (high_test f (right w c) x q n z h f1 z0 in_right above deep))

-- a centre near a point that projects inside passes the visibility test
pub visible_near : (k : CameraFields) (p c : Vec3) → HasRanges k → IsMetAt k p → AreWithin (pos 13 *ℤ k.voxel) (minus p c) → IsTrue (is_visible_at k c)
visible_near k p c r met near =
    let s = k.voxel in
    let n = margin k in
    let i = projects_inside k p met.inside in
    let s0 : pos 0 ≤ℤ s = omega (arith, ints, r.voxel) in
    let z0 : pos 0 ≤ℤ p.z = omega (arith, ints, i.front) in
    let x = close_up (pos 13 *ℤ s) s p.x c.x s0 refl near.x in
    let y = close_up (pos 13 *ℤ s) s p.y c.y s0 refl near.y in
    let z = close_up (pos 13 *ℤ s) s p.z c.z s0 refl near.z in
    let h = side_depth k c.z in
    let deep = shallow p.z c.z n (max_depth k) z.0 met.deep in
    let depth : IsTrue (is_at_depth k c.z) = both_hold _ _ (at_most _ _ (ordered (pos 1) p.z (c.z +ℤ n) i.front z.0)) (at_most _ _ (ordered (c.z -ℤ n) p.z (max_depth k) z.1 met.deep)) in
    let columns = sides_hold k.fx k.cx k.width n p.x c.x p.z h r.fx r.cx z0 (inside_low k.fx k.cx p.x p.z i.front i.u_low) (inside_high k.fx k.cx k.width p.x p.z i.front i.u_high) x.0 x.1 deep in
    let rows = sides_hold k.fy k.cy k.height n p.y c.y p.z h r.fy r.cy z0 (inside_low k.fy k.cy p.y p.z i.front i.v_low) (inside_high k.fy k.cy k.height p.y p.z i.front i.v_high) y.0 y.1 deep in
    let view : IsTrue (is_in_view k c) = both_hold _ _ columns rows in
    both_hold (is_at_depth k c.z) (is_in_view k c) depth view

-- where a voxel is met, its block is visible
pub met_is_visible : (k : CameraFields) (m : Pose) (b : BlockKey) (i : ℕ) → HasRanges k → HasPoseRange m → i < 512 → IsMet k m b i → IsTrue (is_visible k m b)
met_is_visible k m b i r o below met = visible_near k (cam m (point_of k.voxel b i)) (cam m (centre_of k.voxel b)) r met (voxel_step m k.voxel b i o (omega (arith, ints, r.voxel)) below)

-- so no voxel of a block that is not visible is met
pub invisible_meets_none : (k : CameraFields) (m : Pose) (b : BlockKey) → HasRanges k → HasPoseRange m → is_visible k m b ≡ false → MeetsNone k m b
invisible_meets_none k m b r o fails = λ i below met. false≢true (sym fails ∙ met_is_visible k m b i r o below met)
