-- The projection without a division: the pixel coordinate of a point at depth z is tested when it is still multiplied by z.
use Rattle.std.proofs.Common.{◌≡◌, refl, sym, ◌∙◌, ap, arith, rules, ◌≤◌, ◌^◌}
use Rattle.std.specs.Prelude.{ℤ, pos, ◌+ℤ◌, ◌-ℤ◌, ◌*ℤ◌, ◌≤ℤ◌, ◌<ℤ◌, Bool, true, false, IsTrue, unsigned_abs, Option, Some, None, ℕ, ◌<◌, cond, ◌==◌, ◌&&◌, int_le}
use Rattle.std.proofs.lemmas.Bool.Decides.{same_from_decides}
use Rattle.std.proofs.lemmas.Bool.{ne_eqb}
use Rattle.std.specs.Bool.{then_some}
use Rattle.std.proofs.lemmas.Int.{ints, to_z-of_z}
use mir.Val.{SFits, to_z, of_z}
use mir.Syntax.{w64}
use Rattle.fixed_geom.specs.declared.vector.Vec3.{Vec3}
use Rattle.fixed_geom.specs.Division.{IsFloor, floor_div}
use Rattle.fixed_geom.specs.Vectors.{IsWithin, AreWithin}
use Rattle.fixed_geom.proofs.Dots.{within_product}
use Rattle.fixed_geom.proofs.Whole.{sum_mul, mul_difference, mul_turn, mul_order}
use Rattle.fixed_geom.proofs.Floors.{floor_is, floor_nest, floor_div_is, floor_above, floor_below}
use Rattle.camera.specs.declared.camera.CameraFields.{CameraFields}
use Rattle.camera.proofs.Readings.{read, read128, fields_read, fits64, wide_read}
use Rattle.camera.specs.Cameras.{HasRanges, within, is_in_image, pixel_axis, depth_of, project}

-- the pixel coordinate is the floor of the floor by 2^16
pub pixel_is : (f c x z : ℤ) → pos 1 ≤ℤ z → floor_div (floor_div (f *ℤ x +ℤ c *ℤ z +ℤ pos 32768 *ℤ z) (pos 65536)) z ≡ pixel_axis f c x z
pixel_is f c x z h =
    let a = f *ℤ x +ℤ c *ℤ z +ℤ pos 32768 *ℤ z in
    let q = floor_div a (pos 65536) in
    let one : pos 1 ≤ℤ pos 65536 = omega (arith, ints) in
    let d : pos 1 ≤ℤ (pos 65536 *ℤ z) = omega (arith, ints) in
    sym (floor_div_is a (pos 65536 *ℤ z) (floor_div q z) d (floor_nest a (pos 65536) z q (floor_div q z) one h (floor_is a (pos 65536) one) (floor_is q z h)))

-- a test of a range, and its two inequalities
pub within_parts : (low high z : ℤ) → IsTrue (within low high z) → (low ≤ℤ z) × (z ≤ℤ high)
within_parts low high z t = search rules

pub within_holds : (low high z : ℤ) → low ≤ℤ z → z ≤ℤ high → IsTrue (within low high z)
within_holds low high z a b = search rules

-- linear steps
below : (s less zw wz one z : ℤ) → s ≤ℤ (wz -ℤ pos 1) → less ≡ zw -ℤ one → zw ≡ wz → one ≡ z → s <ℤ (less +ℤ z)
below s less zw wz one z h a b e = omega (arith, ints)

at_least : (s zq none : ℤ) → zq ≤ℤ s → none ≤ℤ zq → none ≡ pos 0 → pos 0 ≤ℤ s
at_least s zq none h k e = omega (arith, ints)

at_most : (s zq z less zw wz one : ℤ) → s <ℤ (zq +ℤ z) → zq ≤ℤ less → less ≡ zw -ℤ one → zw ≡ wz → one ≡ z → s ≤ℤ (wz -ℤ pos 1)
at_most s zq z less zw wz one h k a b e = omega (arith, ints)

-- a quotient by z is from 0 to w - 1 where the dividend is from 0 to w z - 1
pub across : (s w z : ℤ) → pos 1 ≤ℤ z → within (pos 0) (w *ℤ z -ℤ pos 1) s ≡ within (pos 0) (w -ℤ pos 1) (floor_div s z)
across s w z h = same_from_decides _ _ (narrow, widen) (within_parts (pos 0) (w -ℤ pos 1) q, λ p. within_holds (pos 0) (w -ℤ pos 1) q p.0 p.1)
  where
    q : ℤ
    q = floor_div s z

    is : IsFloor s z q
    is = floor_is s z h

    narrow : IsTrue (within (pos 0) (w *ℤ z -ℤ pos 1) s) → (pos 0 ≤ℤ q) × (q ≤ℤ (w -ℤ pos 1))
    narrow t = let p = within_parts (pos 0) (w *ℤ z -ℤ pos 1) s t in (floor_above s z q (pos 0) h is (omega (arith, ints)), floor_below s z q (w -ℤ pos 1) h is (below s (z *ℤ (w -ℤ pos 1)) (z *ℤ w) (w *ℤ z) (z *ℤ pos 1) z p.1 (mul_difference z w (pos 1)) (mul_turn z w) (omega (arith, ints))))

    widen : (pos 0 ≤ℤ q) × (q ≤ℤ (w -ℤ pos 1)) → IsTrue (within (pos 0) (w *ℤ z -ℤ pos 1) s)
    widen p = within_holds (pos 0) (w *ℤ z -ℤ pos 1) s (at_least s (z *ℤ q) (z *ℤ pos 0) is.below (mul_order z (pos 0) q (omega (arith, ints)) p.0) (omega (arith, ints))) (at_most s (z *ℤ q) z (z *ℤ (w -ℤ pos 1)) (z *ℤ w) (w *ℤ z) (z *ℤ pos 1) is.above (mul_order z q (w -ℤ pos 1) (omega (arith, ints)) p.1) (mul_difference z w (pos 1)) (mul_turn z w) (omega (arith, ints)))

-- the same test, as the machine reads its numbers
pub across_read : (b : Bool) (s w z : ℤ) → SFits w64 s → IsWithin (pos 2048) w → IsWithin (pos 4398046511104) z → pos 1 ≤ℤ z
    → b ≡ within (pos 0) (to_z w64 (of_z w64 (to_z w64 (of_z w64 (to_z w64 (of_z w64 w) *ℤ to_z w64 (of_z w64 z))) -ℤ pos 1))) (to_z w64 (of_z w64 s))
    → b ≡ within (pos 0) (w -ℤ pos 1) (floor_div s z)
across_read b s w z fits small near h e =
    let x : to_z w64 (of_z w64 w) ≡ w = omega (arith, ints) in
    let y : to_z w64 (of_z w64 z) ≡ z = omega (arith, ints) in
    let p = within_product (pos 2048) (pos 4398046511104) w z small near in
    e ∙ rw (x, y, whole (w *ℤ z) p, less (w *ℤ z) p, to_z-of_z w64 s fits) (across s w z h)
  where
    whole : (p : ℤ) → IsWithin (pos 9007199254740992) p → to_z w64 (of_z w64 p) ≡ p
    whole p i = omega (arith, ints)

    less : (p : ℤ) → IsWithin (pos 9007199254740992) p → to_z w64 (of_z w64 (p -ℤ pos 1)) ≡ p -ℤ pos 1
    less p i = omega (arith, ints)

-- the dividend of a pixel coordinate, by two products as they are read
pub dividend_is : (s t f c x z : ℤ) → read f ≡ f → read x ≡ x → read z ≡ z → IsWithin (pos 134217728) c → s ≡ read f *ℤ read x → t ≡ read (read c +ℤ pos 32768) *ℤ read z → s +ℤ t ≡ f *ℤ x +ℤ c *ℤ z +ℤ pos 32768 *ℤ z
dividend_is s t f c x z ef ex ez cb e g =
    let ec : read (read c +ℤ pos 32768) ≡ c +ℤ pos 32768 = omega (arith, ints) in
    let one : s ≡ f *ℤ x = e ∙ rw (ef, ex) refl in
    let two : t ≡ c *ℤ z +ℤ pos 32768 *ℤ z = g ∙ rw (ec, ez) (sum_mul c (pos 32768) z) in
    joined s t (f *ℤ x) (c *ℤ z) (pos 32768 *ℤ z) one two
  where
    joined : (s t a b d : ℤ) → s ≡ a → t ≡ b +ℤ d → s +ℤ t ≡ a +ℤ b +ℤ d
    joined s t a b d e f = omega (arith, ints)

-- the sum of two products of 128 bits, and of two of 64
pub wide_sum : (s t : ℤ) → unsigned_abs s ≤ 2 ^ 73 → unsigned_abs t ≤ 2 ^ 73 → (read128 (read128 s +ℤ read128 t) ≡ s +ℤ t) × (unsigned_abs (s +ℤ t) ≤ 2 ^ 74)
wide_sum s t h i = (omega (arith, ints), omega (arith, ints))

pub near_sum : (s t : ℤ) → IsWithin (pos 72057594037927936) s → IsWithin (pos 72057594037927936) t → (read (read s +ℤ read t) ≡ s +ℤ t) × IsWithin (pos 144115188075855872) (s +ℤ t)
near_sum s t v w =
    let one : read s ≡ s = omega (arith, ints) in
    let two : read t ≡ t = omega (arith, ints) in
    let three : read (s +ℤ t) ≡ s +ℤ t = omega (arith, ints) in
    (rw (one, two, three) refl, record { low = omega (arith, ints); high = omega (arith, ints) })

pub near_fits : (s t : ℤ) → IsWithin (pos 72057594037927936) s → IsWithin (pos 72057594037927936) t → SFits w64 (read s +ℤ read t)
near_fits s t v w =
    let one : read s ≡ s = omega (arith, ints) in
    let two : read t ≡ t = omega (arith, ints) in
    rw (one, two) (fits64 (s +ℤ t) (record { low = omega (arith, ints); high = omega (arith, ints) }))

-- its quotient by 2^16 is small
pub quotient_within : (a : ℤ) → unsigned_abs a ≤ 2 ^ 74 → IsWithin (pos 1152921504606846976) (floor_div a (pos 65536))
quotient_within a h = plain a (floor_div a (pos 65536)) (floor_is a (pos 65536) (omega (arith, ints))) h
  where
    plain : (a q : ℤ) → IsFloor a (pos 65536) q → unsigned_abs a ≤ 2 ^ 74 → IsWithin (pos 1152921504606846976) q
    plain a q is h = record { low = omega (arith, ints, is.below, is.above); high = omega (arith, ints, is.below, is.above) }

-- ---- depths

-- what the machine answers for a sample
pub depth_read : (k : CameraFields) (raw : ℕ) (p : ℤ) (b : Bool) (r : Option ℤ) → HasRanges k → raw < 65536 → (raw ≡ 0 → ⊥) → p ≡ pos raw
    → b ≡ within (to_z w64 (of_z w64 k.near)) (to_z w64 (of_z w64 k.far)) (to_z w64 (of_z w64 (to_z w64 (of_z w64 p) *ℤ to_z w64 (of_z w64 k.unit))))
    → r ≡ then_some b (to_z w64 (of_z w64 (to_z w64 (of_z w64 p) *ℤ to_z w64 (of_z w64 k.unit))))
    → r ≡ depth_of k raw
depth_read k raw p b r ranges below some is test answer =
    let e = fields_read k ranges in
    let w : IsWithin (pos 65535) (pos raw) = record { low = omega (arith, ints); high = omega (arith, ints) } in
    let u : IsWithin (pos 100000) k.unit = record { low = omega (arith, ints, ranges.unit); high = ranges.unit_high } in
    let d : to_z w64 (of_z w64 (to_z w64 (of_z w64 p) *ℤ to_z w64 (of_z w64 k.unit))) ≡ pos raw *ℤ k.unit = product p raw k.unit is below e.unit (within_product (pos 65535) (pos 100000) (pos raw) k.unit w u) in
    chosen k raw (pos raw *ℤ k.unit) b r (ne_eqb raw 0 some) refl (test ∙ rw (e.near, e.far, d) refl) (answer ∙ ap (then_some b) d)
  where
    product : (p : ℤ) (raw : ℕ) (unit : ℤ) → p ≡ pos raw → raw < 65536 → to_z w64 (of_z w64 unit) ≡ unit → IsWithin (pos 6553500000) (pos raw *ℤ unit) → to_z w64 (of_z w64 (to_z w64 (of_z w64 p) *ℤ to_z w64 (of_z w64 unit))) ≡ pos raw *ℤ unit
    product p raw unit is below e w =
        let one : to_z w64 (of_z w64 p) ≡ pos raw = omega (arith, ints) in
        rw (one, e) (plain (pos raw *ℤ unit) w)
      where
        plain : (z : ℤ) → IsWithin (pos 6553500000) z → to_z w64 (of_z w64 z) ≡ z
        plain z w = omega (arith, ints)

    by_test : (b : Bool) (near far d : ℤ) → b ≡ within near far d → then_some b d ≡ cond (within near far d) (Some d) None
    by_test true near far d e = rw (sym e) refl
    by_test false near far d e = rw (sym e) refl

    chosen : (k : CameraFields) (raw : ℕ) (d : ℤ) (b : Bool) (r : Option ℤ) → (raw == 0) ≡ false → pos raw *ℤ k.unit ≡ d → b ≡ within k.near k.far d → r ≡ then_some b d → r ≡ depth_of k raw
    chosen k raw d b r zero is test answer = answer ∙ by_test b k.near k.far d test ∙ rw (zero, is) refl

-- ---- projection

-- the numbers of one axis, as they are read
pub record IsAxis (f c x z w : ℤ) : Type 0 where
  pub front : pos 1 ≤ℤ z
  pub f_read : read f ≡ f
  pub c_read : read c ≡ c
  pub x_read : read x ≡ x
  pub z_read : read z ≡ z
  pub w_read : read w ≡ w

pub columns : (k : CameraFields) (p : Vec3) → HasRanges k → AreWithin (pos 4398046511104) p → pos 1 ≤ℤ p.z → IsAxis k.fx k.cx p.x p.z k.width
columns k p r w h = let e = fields_read k r in record { front = h; f_read = e.fx; c_read = e.cx; x_read = wide_read p.x w.x; z_read = wide_read p.z w.z; w_read = e.width }

pub rows : (k : CameraFields) (p : Vec3) → HasRanges k → AreWithin (pos 4398046511104) p → pos 1 ≤ℤ p.z → IsAxis k.fy k.cy p.y p.z k.height
rows k p r w h = let e = fields_read k r in record { front = h; f_read = e.fy; c_read = e.cy; x_read = wide_read p.y w.y; z_read = wide_read p.z w.z; w_read = e.height }

-- the pixel coordinate of an axis
axis_is : (f c x z w s : ℤ) → IsAxis f c x z w → SFits w64 s → s ≡ floor_div (read f *ℤ read x +ℤ read c *ℤ read z +ℤ pos 32768 *ℤ read z) (pos 65536) → floor_div (read s) (read z) ≡ pixel_axis f c x z
axis_is f c x z w s a fits is = rw (to_z-of_z w64 s fits, is, a.f_read, a.c_read, a.x_read, a.z_read, pixel_is f c x z a.front) refl

-- a coordinate that passed its test is below the size
pub below_read : (b : Bool) (n : ℕ) (q w : ℤ) → read w ≡ w → pos n ≡ q → b ≡ within (pos 0) (read w -ℤ pos 1) q → b ≡ true → pos n <ℤ w
below_read b n q w ew is e t = let p = within_parts (pos 0) (read w -ℤ pos 1) q (sym e ∙ t) in omega (arith, ints, p.1, ew)

front_holds : (z : ℤ) → pos 1 ≤ℤ z → IsTrue (int_le (pos 1) z)
front_holds z h = search rules

-- the projection of a point before the camera, by the pixel of the quotients
pub projection_is : (k : CameraFields) (p : Vec3) (u v : ℤ) (r : Option (ℕ × ℕ)) → IsAxis k.fx k.cx p.x p.z k.width → IsAxis k.fy k.cy p.y p.z k.height → SFits w64 u → SFits w64 v
    → u ≡ floor_div (read k.fx *ℤ read p.x +ℤ read k.cx *ℤ read p.z +ℤ pos 32768 *ℤ read p.z) (pos 65536) → v ≡ floor_div (read k.fy *ℤ read p.y +ℤ read k.cy *ℤ read p.z +ℤ pos 32768 *ℤ read p.z) (pos 65536)
    → r ≡ cond (is_in_image k (floor_div (read u) (read p.z)) (floor_div (read v) (read p.z))) (Some (unsigned_abs (floor_div (read u) (read p.z)), unsigned_abs (floor_div (read v) (read p.z)))) None → r ≡ project k p
projection_is k p u v r a b fu fv eu ev e =
    e ∙ rw (axis_is k.fx k.cx p.x p.z k.width u a fu eu, axis_is k.fy k.cy p.y p.z k.height v b fv ev) (before (int_le (pos 1) p.z) (is_in_image k (pixel_axis k.fx k.cx p.x p.z) (pixel_axis k.fy k.cy p.y p.z)) _ (front_holds p.z a.front))
  where
    before : {X : Type 0} (h b : Bool) (x : X) → h ≡ true → cond b (Some x) None ≡ cond (h && b) (Some x) None
    before true b x e = refl
    before false b x e = absurd (cc)
