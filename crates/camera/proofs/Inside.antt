-- A camera point that projects inside has bounds by the image's sides, and by the opening test's reach.
use Rattle.std.proofs.Common.{ℕ, Bool, true, false, Some, None, cond, ◌≡◌, ap, refl, ◌∙◌, arith}
use Rattle.std.specs.Prelude.{ℤ, pos, neg_ℤ, ◌+ℤ◌, ◌-ℤ◌, ◌*ℤ◌, ◌≤ℤ◌, ◌<ℤ◌, int_le, IsTrue}
use Rattle.std.proofs.lemmas.Int.{ints}
use Rattle.std.proofs.lemmas.Bool.{and_parts}
use Rattle.fixed_geom.specs.Division.{floor_div}
use Rattle.fixed_geom.specs.declared.vector.Vec3.{Vec3}
use Rattle.fixed_geom.specs.Vectors.{IsWithin}
use Rattle.fixed_geom.proofs.Whole.{mul_sum, sum_mul, mul_turn, mul_group, mul_order, mul_neg, difference_mul}
use Rattle.fixed_geom.proofs.Floors.{floor_is, floor_above}
use Rattle.camera.specs.declared.camera.CameraFields.{CameraFields}
use Rattle.camera.specs.Cameras.{project, HasRanges, is_inside, is_in_image, within, pixel_axis, left, right, half, max_depth, reach_axis, reach_x, reach_y}
use Rattle.camera.specs.Visibility.{IsMetAt}
use Rattle.camera.proofs.RangeLemmas.{is_at_most, between}
use Rattle.camera.proofs.RayLemmas.{at_depth, half_covers}

-- the side of the image on the left, over named products
side_low : (fx cz z a zu cz' : ℤ) → zu ≤ℤ a → a ≡ fx +ℤ cz +ℤ pos 32768 *ℤ z → pos 0 ≤ℤ zu → cz' ≡ cz +ℤ pos 32768 *ℤ z → (neg_ℤ cz') ≤ℤ fx
side_low fx cz z a zu cz' h e p f = omega (arith, ints)

-- a pixel coordinate of at least 0 bounds the point on the left
pub inside_low : (f c x z : ℤ) → pos 1 ≤ℤ z → pos 0 ≤ℤ pixel_axis f c x z → (neg_ℤ (left c *ℤ z)) ≤ℤ (f *ℤ x)
inside_low f c x z h u =
    let d = pos 65536 *ℤ z in
    let a = f *ℤ x +ℤ c *ℤ z +ℤ pos 32768 *ℤ z in
    let is = floor_is a d (omega (arith, ints)) in
    side_low (f *ℤ x) (c *ℤ z) z a (d *ℤ pixel_axis f c x z) (left c *ℤ z) is.below refl (product_up d (pixel_axis f c x z) (omega (arith, ints)) u) (sum_mul c (pos 32768) z)
  where
    product_up : (d u : ℤ) → pos 0 ≤ℤ d → pos 0 ≤ℤ u → pos 0 ≤ℤ (d *ℤ u)
    product_up d u p q = let m = mul_order d (pos 0) u p q in omega (arith, ints)

side_high : (fx cz z a zu zw r wz : ℤ) → a <ℤ (zu +ℤ pos 65536 *ℤ z) → a ≡ fx +ℤ cz +ℤ pos 32768 *ℤ z → (zu +ℤ pos 65536 *ℤ z) ≤ℤ zw → zw ≡ pos 65536 *ℤ wz → r ≡ pos 65536 *ℤ wz -ℤ cz -ℤ pos 32768 *ℤ z → fx <ℤ r
side_high fx cz z a zu zw r wz h e p f g = omega (arith, ints)

-- the right side times a depth
right_times : (w c z : ℤ) → right w c *ℤ z ≡ pos 65536 *ℤ (w *ℤ z) -ℤ c *ℤ z -ℤ pos 32768 *ℤ z
right_times w c z =
    difference_mul (pos 65536 *ℤ w -ℤ c) (pos 32768) z
    ∙ ap (λ (y : ℤ). y -ℤ pos 32768 *ℤ z) (difference_mul (pos 65536 *ℤ w) c z)
    ∙ ap (λ (y : ℤ). y -ℤ c *ℤ z -ℤ pos 32768 *ℤ z) (mul_group (pos 65536) w z)

-- a pixel coordinate below the width bounds the point on the right
pub inside_high : (f c w x z : ℤ) → pos 1 ≤ℤ z → pixel_axis f c x z <ℤ w → (f *ℤ x) <ℤ (right w c *ℤ z)
inside_high f c w x z h u =
    let d = pos 65536 *ℤ z in
    let q = pixel_axis f c x z in
    let a = f *ℤ x +ℤ c *ℤ z +ℤ pos 32768 *ℤ z in
    let is = floor_is a d (omega (arith, ints)) in
    let next : (q +ℤ pos 1) ≤ℤ w = omega (arith, ints) in
    let one : d *ℤ (q +ℤ pos 1) ≡ d *ℤ q +ℤ d *ℤ pos 1 = mul_sum d q (pos 1) in
    let more : (d *ℤ (q +ℤ pos 1)) ≤ℤ (d *ℤ w) = mul_order d (q +ℤ pos 1) w (omega (arith, ints)) next in
    let whole : d *ℤ w ≡ pos 65536 *ℤ (w *ℤ z) = mul_group (pos 65536) z w ∙ ap (λ (y : ℤ). pos 65536 *ℤ y) (mul_turn z w) in
    side_high (f *ℤ x) (c *ℤ z) z a (d *ℤ q) (d *ℤ w) (right w c *ℤ z) (w *ℤ z) is.above refl (stepped (d *ℤ q) (d *ℤ (q +ℤ pos 1)) (d *ℤ pos 1) (d *ℤ w) z one (omega (arith, ints)) more) whole (right_times w c z)
  where
    stepped : (q next one w z : ℤ) → next ≡ q +ℤ one → one ≡ pos 65536 *ℤ z → next ≤ℤ w → (q +ℤ pos 65536 *ℤ z) ≤ℤ w
    stepped q next one w z e f h = omega (arith, ints)

-- ---- the reach

low_side : (f x lz top q : ℤ) → (neg_ℤ lz) ≤ℤ (f *ℤ x) → lz ≤ℤ top → (f *ℤ neg_ℤ x) ≤ℤ top
low_side f x lz top q h k = omega (arith, ints, mul_neg f x)

-- a point inside, at most at the greatest depth, is closer to the axis than the reach
pub inside_within : (f c w x z top : ℤ) → pos 1 ≤ℤ f → pos 0 ≤ℤ c → pos 1 ≤ℤ z → z ≤ℤ top → pos 0 ≤ℤ pixel_axis f c x z → pixel_axis f c x z <ℤ w → IsWithin (reach_axis top f w c -ℤ pos 1) x
inside_within f c w x z top f1 c0 z1 le u v =
    let m = half w c in
    let covers = half_covers w c c0 in
    let l : (left c *ℤ z) ≤ℤ (top *ℤ m) = at_depth (left c) m z top covers.0 covers.2 (omega (arith, ints)) le in
    let r : (right w c *ℤ z) ≤ℤ (top *ℤ m) = at_depth (right w c) m z top covers.1 covers.2 (omega (arith, ints)) le in
    let is = floor_is (top *ℤ m) f f1 in
    let q = floor_div (top *ℤ m) f in
    let high : x ≤ℤ q = floor_above (top *ℤ m) f q x f1 is (below (f *ℤ x) (right w c *ℤ z) (top *ℤ m) (inside_high f c w x z z1 v) r) in
    let low : (neg_ℤ x) ≤ℤ q = floor_above (top *ℤ m) f q (neg_ℤ x) f1 is (low_side f x (left c *ℤ z) (top *ℤ m) q (inside_low f c x z z1 u) l) in
    ended x q high low
  where
    below : (a b c : ℤ) → a <ℤ b → b ≤ℤ c → a ≤ℤ c
    below a b c h k = omega (arith, ints)

    ended : (x q : ℤ) → x ≤ℤ q → (neg_ℤ x) ≤ℤ q → IsWithin ((q +ℤ pos 1) -ℤ pos 1) x
    ended x q h k = record { low = omega (arith, ints); high = omega (arith, ints) }

-- the parts of the test of a point that projects inside
pub record ProjectsInside (k : CameraFields) (p : Vec3) : Type 0 where
  pub front : pos 1 ≤ℤ p.z
  pub u_low : pos 0 ≤ℤ pixel_axis k.fx k.cx p.x p.z
  pub u_high : pixel_axis k.fx k.cx p.x p.z <ℤ k.width
  pub v_low : pos 0 ≤ℤ pixel_axis k.fy k.cy p.y p.z
  pub v_high : pixel_axis k.fy k.cy p.y p.z <ℤ k.height

pub projects_inside : (k : CameraFields) (p : Vec3) → IsTrue (is_inside k p) → ProjectsInside k p
projects_inside k p t =
    let u = pixel_axis k.fx k.cx p.x p.z in
    let v = pixel_axis k.fy k.cy p.y p.z in
    let parts = and_parts (int_le (pos 1) p.z) (is_in_image k u v) t in
    let both = and_parts (within (pos 0) (k.width -ℤ pos 1) u) (within (pos 0) (k.height -ℤ pos 1) v) parts.1 in
    let column = between (pos 0) (k.width -ℤ pos 1) u both.0 in
    let row = between (pos 0) (k.height -ℤ pos 1) v both.1 in
    record { front = is_at_most (pos 1) p.z parts.0; u_low = column.0; u_high = below u k.width column.1; v_low = row.0; v_high = below v k.height row.1 }
  where
    below : (x w : ℤ) → x ≤ℤ (w -ℤ pos 1) → x <ℤ w
    below x w h = omega (arith, ints)

-- a point that projects inside at a depth of at most the greatest one is within the reach, less 1
pub inside_bounds : (k : CameraFields) (p : Vec3) → HasRanges k → IsMetAt k p → IsWithin (reach_x k -ℤ pos 1) p.x × IsWithin (reach_y k -ℤ pos 1) p.y
inside_bounds k p r met =
    let i = projects_inside k p met.inside in (
      inside_within k.fx k.cx k.width p.x p.z (max_depth k) r.fx r.cx i.front met.deep i.u_low i.u_high,
      inside_within k.fy k.cy k.height p.y p.z (max_depth k) r.fy r.cy i.front met.deep i.v_low i.v_high,
    )

-- a point that has a pixel is met, if it is at most at the greatest depth
pub met_by_pixel : (k : CameraFields) (p : Vec3) (q : ℕ × ℕ) → project k p ≡ Some q → p.z ≤ℤ max_depth k → IsMetAt k p
met_by_pixel k p q e le = record { inside = by (is_inside k p) _ e; deep = le }
  where
    by : (b : Bool) (x : ℕ × ℕ) → cond b (Some x) None ≡ Some q → b ≡ true
    by true x e = refl
    by false x e = absurd cc
