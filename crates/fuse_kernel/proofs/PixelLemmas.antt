-- The test of a pixel.
use Rattle.std.proofs.Common.{◌≡◌, ◌∙◌, ℕ, cond, refl, arith, ap, rules, sym, subst}
use Rattle.std.specs.Prelude.{ℤ, pos, ◌+ℤ◌, ◌-ℤ◌, ◌*ℤ◌, ◌≤ℤ◌, ◌<ℤ◌, ◌↔◌, ◌&&◌, int_le, unsigned_abs, Bool, true, false, IsTrue, Option, None, Some, option_and_then}
use Rattle.std.proofs.lemmas.Int.{ints, to_z-of_z}
use mir.Val.{SFits}
use mir.Syntax.{w64}
use Rattle.fixed_geom.specs.Division.{IsFloor, floor_div}
use Rattle.fixed_geom.specs.Vectors.{IsWithin}
use Rattle.fixed_geom.proofs.Floors.{floor_is, floor_div_is}
use Rattle.fixed_geom.proofs.Whole.{difference_mul, mul_group, mul_turn, sum_mul}
use Rattle.fixed_geom.proofs.Machine.{fits64, plain_read, read}
use Rattle.fixed_geom.specs.declared.vector.Vec3.{Vec3}
use Rattle.camera.specs.declared.camera.CameraFields.{CameraFields}
use Rattle.camera.specs.Cameras.{pixel_axis, project, within}
use Rattle.fuse_kernel.specs.Pixels.{raised_pixel}

-- the rest that u leaves, with the products named
rest_is : (f k x z u : ℤ) → (f *ℤ x) +ℤ ((k -ℤ pos 65536 *ℤ u) *ℤ z) ≡ ((f *ℤ x) +ℤ (k *ℤ z)) -ℤ ((pos 65536 *ℤ z) *ℤ u)
rest_is f k x z u =
    let one : (k -ℤ pos 65536 *ℤ u) *ℤ z ≡ (k *ℤ z) -ℤ ((pos 65536 *ℤ u) *ℤ z) = difference_mul k (pos 65536 *ℤ u) z in
    let two : (pos 65536 *ℤ u) *ℤ z ≡ (pos 65536 *ℤ z) *ℤ u = mul_group (pos 65536) u z ∙ ap (λ t. pos 65536 *ℤ t) (mul_turn u z) ∙ sym (mul_group (pos 65536) z u) in
    plain (f *ℤ x) (k *ℤ z) ((pos 65536 *ℤ u) *ℤ z) ((pos 65536 *ℤ z) *ℤ u) ((k -ℤ pos 65536 *ℤ u) *ℤ z) one two
  where
    plain : (a b c d e : ℤ) → e ≡ b -ℤ c → c ≡ d → a +ℤ e ≡ (a +ℤ b) -ℤ d
    plain a b c d e p q = omega (arith, ints)

-- a number that leaves a rest below the divisor is the floor
floor_by_rest : (a b p rest u : ℤ) → p ≡ b *ℤ u → rest ≡ a -ℤ p → pos 0 ≤ℤ rest → rest <ℤ b → IsFloor a b u
floor_by_rest a b p rest u ep er low high = record { below = subst (λ z. z ≤ℤ a) ep (plain a b p rest er low high).0; above = subst (λ z. a <ℤ (z +ℤ b)) ep (plain a b p rest er low high).1 }
  where
    plain : (a b p rest : ℤ) → rest ≡ a -ℤ p → pos 0 ≤ℤ rest → rest <ℤ b → (p ≤ℤ a) × (a <ℤ (p +ℤ b))
    plain a b p rest e low high = (omega (arith, ints), omega (arith, ints))

-- and only the floor does
rest_of_floor : (a b p rest : ℤ) → rest ≡ a -ℤ p → p ≤ℤ a → a <ℤ (p +ℤ b) → (pos 0 ≤ℤ rest) × (rest <ℤ b)
rest_of_floor a b p rest e low high = (omega (arith, ints), omega (arith, ints))

front_of : (rest z : ℤ) → pos 0 ≤ℤ rest → rest <ℤ (pos 65536 *ℤ z) → pos 1 ≤ℤ z
front_of rest z low high = omega (arith, ints)

pub pixel_by_rest : (f k x z u rest : ℤ) → rest ≡ (f *ℤ x) +ℤ ((k -ℤ pos 65536 *ℤ u) *ℤ z) → (pos 0 ≤ℤ rest) × (rest <ℤ (pos 65536 *ℤ z)) → (pos 1 ≤ℤ z) × (u ≡ raised_pixel f k x z)
pixel_by_rest f k x z u rest is w =
    let front : pos 1 ≤ℤ z = front_of rest z w.0 w.1 in
    let deep : pos 1 ≤ℤ (pos 65536 *ℤ z) = omega (arith, ints) in
    (front, sym (floor_div_is ((f *ℤ x) +ℤ (k *ℤ z)) (pos 65536 *ℤ z) u deep (floor_by_rest ((f *ℤ x) +ℤ (k *ℤ z)) (pos 65536 *ℤ z) ((pos 65536 *ℤ z) *ℤ u) rest u refl (is ∙ rest_is f k x z u) w.0 w.1)))

pub rest_by_pixel : (f k x z u rest : ℤ) → rest ≡ (f *ℤ x) +ℤ ((k -ℤ pos 65536 *ℤ u) *ℤ z) → (pos 1 ≤ℤ z) × (u ≡ raised_pixel f k x z) → (pos 0 ≤ℤ rest) × (rest <ℤ (pos 65536 *ℤ z))
rest_by_pixel f k x z u rest is w =
    let deep : pos 1 ≤ℤ (pos 65536 *ℤ z) = depth z w.0 in
    let floor : IsFloor ((f *ℤ x) +ℤ (k *ℤ z)) (pos 65536 *ℤ z) u = subst (IsFloor ((f *ℤ x) +ℤ (k *ℤ z)) (pos 65536 *ℤ z)) (sym w.1) (floor_is ((f *ℤ x) +ℤ (k *ℤ z)) (pos 65536 *ℤ z) deep) in
    rest_of_floor ((f *ℤ x) +ℤ (k *ℤ z)) (pos 65536 *ℤ z) ((pos 65536 *ℤ z) *ℤ u) rest (is ∙ rest_is f k x z u) floor.below floor.above
  where
    depth : (z : ℤ) → pos 1 ≤ℤ z → pos 1 ≤ℤ (pos 65536 *ℤ z)
    depth z h = omega (arith, ints)

-- ---- as the machine reads it

pub pair_fits : (p q : ℤ) → IsWithin (pos 288230376151711744) p → IsWithin (pos 288230376151711744) q → SFits w64 (read p +ℤ read q)
pair_fits p q v w =
    let one : read p ≡ p = omega (arith, ints) in
    let two : read q ≡ q = omega (arith, ints) in
    rw (one, two) (fits64 (p +ℤ q) (record { low = omega (arith, ints); high = omega (arith, ints) }))

pub pair_read : (p q : ℤ) → IsWithin (pos 288230376151711744) p → IsWithin (pos 288230376151711744) q → read (read p +ℤ read q) ≡ p +ℤ q
pair_read p q v w =
    let one : read p ≡ p = omega (arith, ints) in
    let two : read q ≡ q = omega (arith, ints) in
    let three : read (p +ℤ q) ≡ p +ℤ q = omega (arith, ints) in
    rw (one, two) three

pub pair_within : (p q : ℤ) → IsWithin (pos 288230376151711744) p → IsWithin (pos 288230376151711744) q → IsWithin (pos 576460752303423488) (p +ℤ q)
pair_within p q v w = record { low = omega (arith, ints); high = omega (arith, ints) }

pub rest_read : (f k x z u p o q : ℤ) → SFits w64 f → SFits w64 k → SFits w64 x → SFits w64 z → SFits w64 u
    → p ≡ read f *ℤ read x → o ≡ read k -ℤ pos 65536 *ℤ read u → q ≡ read o *ℤ read z
    → IsWithin (pos 288230376151711744) p → IsWithin (pos 4294967296) o → IsWithin (pos 288230376151711744) q
    → read (read p +ℤ read q) ≡ (f *ℤ x) +ℤ ((k -ℤ pos 65536 *ℤ u) *ℤ z)
rest_read f k x z u p o q ff fk fx fz fu ep eo eq wp wo wq =
    let one : p ≡ f *ℤ x = ep ∙ rw (to_z-of_z w64 f ff, to_z-of_z w64 x fx) refl in
    let two : o ≡ k -ℤ pos 65536 *ℤ u = eo ∙ rw (to_z-of_z w64 k fk, to_z-of_z w64 u fu) refl in
    let same : read o ≡ o = plain_read (pos 4294967296) o (omega (arith, ints)) wo in
    let three : q ≡ (k -ℤ pos 65536 *ℤ u) *ℤ z = eq ∙ rw (same, to_z-of_z w64 z fz, two) refl in
    pair_read p q wp wq ∙ rw (one, three) refl

pub pixel_test : (b : Bool) (f k x z u rest : ℤ) → SFits w64 f → SFits w64 k → SFits w64 x → SFits w64 z → SFits w64 u → IsWithin (pos 67108864) z → IsWithin (pos 576460752303423488) rest
    → rest ≡ (read f *ℤ read x) +ℤ ((read k -ℤ pos 65536 *ℤ read u) *ℤ read z)
    → IsTrue b ↔ ((pos 0 ≤ℤ read rest) × (read rest <ℤ read (pos 65536 *ℤ read z)))
    → IsTrue b ↔ ((pos 1 ≤ℤ z) × (u ≡ raised_pixel f k x z))
pixel_test b f k x z u rest ff fk fx fz fu wz wr er test =
    let is : rest ≡ (f *ℤ x) +ℤ ((k -ℤ pos 65536 *ℤ u) *ℤ z) = er ∙ rw (to_z-of_z w64 f ff, to_z-of_z w64 k fk, to_z-of_z w64 x fx, to_z-of_z w64 z fz, to_z-of_z w64 u fu) refl in
    (λ t. pixel_by_rest f k x z u rest is (plain rest z wz wr (test.0 t)), λ w. test.1 (machine rest z wz wr (rest_by_pixel f k x z u rest is w)))
  where
    plain : (rest z : ℤ) → IsWithin (pos 67108864) z → IsWithin (pos 576460752303423488) rest → (pos 0 ≤ℤ read rest) × (read rest <ℤ read (pos 65536 *ℤ read z)) → (pos 0 ≤ℤ rest) × (rest <ℤ (pos 65536 *ℤ z))
    plain rest z wz wr h =
        let one : read rest ≡ rest = omega (arith, ints) in
        let two : read (pos 65536 *ℤ read z) ≡ pos 65536 *ℤ z = omega (arith, ints) in
        (subst (λ t. pos 0 ≤ℤ t) one h.0, subst (λ t. rest <ℤ t) two (subst (λ t. t <ℤ read (pos 65536 *ℤ read z)) one h.1))

    machine : (rest z : ℤ) → IsWithin (pos 67108864) z → IsWithin (pos 576460752303423488) rest → (pos 0 ≤ℤ rest) × (rest <ℤ (pos 65536 *ℤ z)) → (pos 0 ≤ℤ read rest) × (read rest <ℤ read (pos 65536 *ℤ read z))
    machine rest z wz wr h =
        let one : read rest ≡ rest = omega (arith, ints) in
        let two : read (pos 65536 *ℤ read z) ≡ pos 65536 *ℤ z = omega (arith, ints) in
        rw (one, two) h

pub divided_read : (f k x z p q r : ℤ) → SFits w64 f → SFits w64 k → SFits w64 x → SFits w64 z → SFits w64 r
    → p ≡ read f *ℤ read x → q ≡ read k *ℤ read z → IsWithin (pos 288230376151711744) p → IsWithin (pos 288230376151711744) q
    → r ≡ floor_div (read (read p +ℤ read q)) (pos 65536 *ℤ read z) → read r ≡ raised_pixel f k x z
divided_read f k x z p q r ff fk fx fz fr ep eq wp wq er =
    let one : p ≡ f *ℤ x = ep ∙ rw (to_z-of_z w64 f ff, to_z-of_z w64 x fx) refl in
    let two : q ≡ k *ℤ z = eq ∙ rw (to_z-of_z w64 k fk, to_z-of_z w64 z fz) refl in
    let sum : read (read p +ℤ read q) ≡ (f *ℤ x) +ℤ (k *ℤ z) = pair_read p q wp wq ∙ rw (one, two) refl in
    to_z-of_z w64 r fr ∙ er ∙ rw (sum, to_z-of_z w64 z fz) refl

pub deep_fits : (z : ℤ) → IsWithin (pos 67108864) z → SFits w64 (pos 65536 *ℤ read z)
deep_fits z w =
    let one : read z ≡ z = omega (arith, ints) in
    rw one (fits64 (pos 65536 *ℤ z) (record { low = omega (arith, ints); high = omega (arith, ints) }))

-- the centre with a half pixel added
pub pixel_of_centre : (f c x z : ℤ) → raised_pixel f (c +ℤ pos 32768) x z ≡ floor_div (f *ℤ x +ℤ c *ℤ z +ℤ pos 32768 *ℤ z) (pos 65536 *ℤ z)
pixel_of_centre f c x z = ap (λ t. floor_div t (pos 65536 *ℤ z)) (ap (λ t. (f *ℤ x) +ℤ t) (sum_mul c (pos 32768) z) ∙ grouped (f *ℤ x) (c *ℤ z) (pos 32768 *ℤ z))
  where
    grouped : (a b d : ℤ) → a +ℤ (b +ℤ d) ≡ (a +ℤ b) +ℤ d
    grouped a b d = omega (arith, ints)

-- one coordinate of a pixel, as the machine reads it
pub pixel_axis_read : (f c x z r : ℤ) → IsWithin (pos 1073741824) f → IsWithin (pos 134217728) c → SFits w64 x → SFits w64 z → SFits w64 r
    → r ≡ raised_pixel (read f) (read (read c +ℤ pos 32768)) (read x) (read z) → read r ≡ pixel_axis f c x z
pixel_axis_read f c x z r wf wc fx fz fr er =
    let one : read f ≡ f = plain_read (pos 1073741824) f (omega (arith, ints)) wf in
    let two : read c ≡ c = plain_read (pos 134217728) c (omega (arith, ints)) wc in
    let three : read (c +ℤ pos 32768) ≡ c +ℤ pos 32768 = raised_read c wc in
    to_z-of_z w64 r fr ∙ er ∙ rw (one, two, three, to_z-of_z w64 x fx, to_z-of_z w64 z fz) (pixel_of_centre f c x z)
  where
    raised_read : (c : ℤ) → IsWithin (pos 134217728) c → read (c +ℤ pos 32768) ≡ c +ℤ pos 32768
    raised_read c w = omega (arith, ints)

-- ---- both coordinates

-- one coordinate of a pixel that is one of the first w ones
abbrev pub axis_found : (w f c x z : ℤ) → Option ℕ
axis_found w f c x z = cond (within (pos 0) (w -ℤ pos 1) (pixel_axis f c x z)) (Some (unsigned_abs (pixel_axis f c x z))) None

-- as the machine reads it, by the numbers that the update has of a camera
pub axis_read : (size : ℕ) (w f c kf kc x z : ℤ) (o : Option ℕ) → pos size ≡ w → f ≡ kf → c ≡ kc → IsWithin (pos 67108864) x → IsWithin (pos 67108864) z
    → o ≡ axis_found (pos size) f c (read x) (read z) → o ≡ axis_found w kf kc x z
axis_read size w f c kf kc x z o es ef ec wx wz er =
    let one : read x ≡ x = plain_read (pos 67108864) x (omega (arith, ints)) wx in
    let two : read z ≡ z = plain_read (pos 67108864) z (omega (arith, ints)) wz in
    er ∙ ap (λ t. axis_found t f c (read x) (read z)) es ∙ ap (λ t. axis_found w t c (read x) (read z)) ef ∙ ap (λ t. axis_found w kf t (read x) (read z)) ec ∙ ap (λ t. axis_found w kf kc t (read z)) one ∙ ap (λ t. axis_found w kf kc x t) two

-- the pixel with both coordinates
abbrev pub pixel_found : Option ℕ → Option ℕ → Option (ℕ × ℕ)
pixel_found o p = option_and_then (λ u. option_and_then (λ v. Some (u, v)) p) o

both : (a b : Bool) (u v : ℕ) → pixel_found (cond a (Some u) None) (cond b (Some v) None) ≡ cond (true && (a && b)) (Some (u, v)) None
both true true u v = refl
both true false u v = refl
both false true u v = refl
both false false u v = refl

in_front : (z : ℤ) → pos 1 ≤ℤ z → int_le (pos 1) z ≡ true
in_front z h = search (rules, h)

pub project_is : (k : CameraFields) (p : Vec3) (u v : Option ℕ) → pos 1 ≤ℤ p.z → u ≡ axis_found k.width k.fx k.cx p.x p.z → v ≡ axis_found k.height k.fy k.cy p.y p.z → pixel_found u v ≡ project k p
project_is k p u v front eu ev =
    let x = pixel_axis k.fx k.cx p.x p.z in
    let y = pixel_axis k.fy k.cy p.y p.z in
    let a = within (pos 0) (k.width -ℤ pos 1) x in
    let b = within (pos 0) (k.height -ℤ pos 1) y in
    ap (λ o. pixel_found o v) eu ∙ ap (λ o. pixel_found (axis_found k.width k.fx k.cx p.x p.z) o) ev ∙ both a b (unsigned_abs x) (unsigned_abs y) ∙ sym (ap (λ (c : Bool). cond (c && (a && b)) (Some (unsigned_abs x, unsigned_abs y)) None) (in_front p.z front))

-- a point that is not behind the camera, by the machine's test
pub front_read : (z : ℤ) → IsWithin (pos 67108864) z → int_le (read z) (pos 0) ≡ false → pos 1 ≤ℤ z
front_read z w test = let same : read z ≡ z = plain_read (pos 67108864) z (omega (arith, ints)) w in plain z (subst (λ t. int_le t (pos 0) ≡ false) same test)
  where
    plain : (z : ℤ) → int_le z (pos 0) ≡ false → pos 1 ≤ℤ z
    plain z t = search (rules, t)
