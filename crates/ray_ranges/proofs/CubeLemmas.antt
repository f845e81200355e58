-- The camera coordinates of a point whose nearest voxel is in a cube.
use Rattle.std.proofs.Common.{◌≡◌, ap, sym, ◌∙◌, arith}
use Rattle.std.specs.Prelude.{ℤ, pos, ◌+ℤ◌, ◌-ℤ◌, ◌*ℤ◌, ◌≤ℤ◌, ◌<ℤ◌, unsigned_abs}
use Rattle.std.proofs.lemmas.Int.{ints}
use Rattle.fixed_geom.specs.Division.{IsFloor, floor_div}
use Rattle.fixed_geom.specs.declared.vector.Vec3.{Vec3}
use Rattle.fixed_geom.specs.Vectors.{IsWithin, AreWithin, vec, dot}
use Rattle.fixed_geom.specs.Poses.{unit, cam_q30_axis, cam_axis}
use Rattle.fixed_geom.proofs.Whole.{mul_sum, sum_mul, mul_turn, mul_group, mul_difference, mul_order}
use Rattle.fixed_geom.proofs.Floors.{floor_is}
use Rattle.fixed_geom.proofs.Dots.{within_product, unit_positive}
use Rattle.camera.specs.Grid.{nearest_axis, nearest_voxel}
use Rattle.ray_ranges.specs.Cubes.{IsFrom, IsInCube}
use Rattle.ray_ranges.specs.Boxes.{IsIn, middle_axis, middle_of, size_of, reach_of, two_units}

-- ---- the way from the middle of the cube

-- a factor with twice a number is twice the product
pub twice : (s l : ℤ) → s *ℤ (pos 2 *ℤ l) ≡ pos 2 *ℤ (s *ℤ l)
twice s l = mul_turn s (pos 2 *ℤ l) ∙ mul_group (pos 2) l s ∙ ap (λ (z : ℤ). pos 2 *ℤ z) (mul_turn l s)

times_one : (s : ℤ) → s *ℤ pos 1 ≡ s
times_one s = omega (arith, ints)

times_none : (s : ℤ) → s *ℤ pos 0 ≡ pos 0
times_none s = omega (arith, ints)

-- s times the doubled middle of the voxels
pub middle_is : (s l e : ℤ) → s *ℤ (pos 2 *ℤ l +ℤ e -ℤ pos 1) ≡ (pos 2 *ℤ (s *ℤ l)) +ℤ (s *ℤ e) -ℤ s
middle_is s l e = joined (s *ℤ (pos 2 *ℤ l +ℤ e -ℤ pos 1)) (s *ℤ (pos 2 *ℤ l +ℤ e)) (s *ℤ pos 1) (s *ℤ (pos 2 *ℤ l)) (s *ℤ e) (pos 2 *ℤ (s *ℤ l)) s
    (mul_difference s (pos 2 *ℤ l +ℤ e) (pos 1)) (mul_sum s (pos 2 *ℤ l) e) (times_one s) (twice s l)
  where
    joined : (a b c d f g s : ℤ) → a ≡ b -ℤ c → b ≡ d +ℤ f → c ≡ s → d ≡ g → a ≡ g +ℤ f -ℤ s
    joined a b c d f g s p q r t = omega (arith, ints)

-- on one axis: twice the way from the translation t to the point p is within s e of the doubled middle, if the nearest voxel n is one of e from l on
pub near_middle : (s p t l e n : ℤ) → pos 1 ≤ℤ s → IsFloor (pos 2 *ℤ p +ℤ s) (pos 2 *ℤ s) n → IsFrom l (l +ℤ e -ℤ pos 1) n → IsWithin (s *ℤ e) (pos 2 *ℤ (p -ℤ t) -ℤ middle_axis s l e t)
near_middle s p t l e n s1 is at =
    let x = n -ℤ l in
    let same : l +ℤ x ≡ n = omega (arith, ints) in
    let product : (pos 2 *ℤ s) *ℤ n ≡ pos 2 *ℤ (s *ℤ n) = mul_group (pos 2) s n in
    let parted : s *ℤ n ≡ (s *ℤ l) +ℤ (s *ℤ x) = ap (λ (z : ℤ). s *ℤ z) (sym same) ∙ mul_sum s l x in
    let least : (s *ℤ pos 0) ≤ℤ (s *ℤ x) = mul_order s (pos 0) x (omega (arith, ints)) (omega (arith, ints, at.low)) in
    let most : (s *ℤ x) ≤ℤ (s *ℤ (e -ℤ pos 1)) = mul_order s x (e -ℤ pos 1) (omega (arith, ints)) (omega (arith, ints, at.high)) in
    plain s p t (s *ℤ l) (s *ℤ x) (s *ℤ e) (s *ℤ n) ((pos 2 *ℤ s) *ℤ n) (s *ℤ pos 0) (s *ℤ (e -ℤ pos 1)) (s *ℤ pos 1) (s *ℤ (pos 2 *ℤ l +ℤ e -ℤ pos 1))
    is.below is.above product parted least (times_none s) most (mul_difference s e (pos 1)) (times_one s) (middle_is s l e)
  where
    plain : (s p t sl sx se sn dn none top one m : ℤ) → dn ≤ℤ (pos 2 *ℤ p +ℤ s) → (pos 2 *ℤ p +ℤ s) <ℤ (dn +ℤ pos 2 *ℤ s) → dn ≡ pos 2 *ℤ sn → sn ≡ sl +ℤ sx
        → none ≤ℤ sx → none ≡ pos 0 → sx ≤ℤ top → top ≡ se -ℤ one → one ≡ s → m ≡ (pos 2 *ℤ sl) +ℤ se -ℤ s → IsWithin se (pos 2 *ℤ (p -ℤ t) -ℤ (m -ℤ pos 2 *ℤ t))
    plain s p t sl sx se sn dn none top one m a b c d e f g h i j = record { low = omega (arith, ints); high = omega (arith, ints) }

-- twice the way from the translation, less the doubled middle
abbrev pub off : (t p m : Vec3) → Vec3
off t p m = vec (pos 2 *ℤ (p.x -ℤ t.x) -ℤ m.x) (pos 2 *ℤ (p.y -ℤ t.y) -ℤ m.y) (pos 2 *ℤ (p.z -ℤ t.z) -ℤ m.z)

-- the same on the three axes
pub cube_near : (s e : ℤ) (l t p : Vec3) → pos 1 ≤ℤ s → IsInCube l e (nearest_voxel s p) → AreWithin (s *ℤ e) (off t p (middle_of s l e t))
cube_near s e l t p s1 at = record {
  x = near_middle s p.x t.x l.x e (nearest_axis s p.x) s1 (is p.x) at.x;
  y = near_middle s p.y t.y l.y e (nearest_axis s p.y) s1 (is p.y) at.y;
  z = near_middle s p.z t.z l.z e (nearest_axis s p.z) s1 (is p.z) at.z;
}
  where
    is : (p : ℤ) → IsFloor (pos 2 *ℤ p +ℤ s) (pos 2 *ℤ s) (nearest_axis s p)
    is p = floor_is (pos 2 *ℤ p +ℤ s) (pos 2 *ℤ s) (omega (arith, ints))

-- ---- the form

own : (z : ℤ) → IsWithin (pos (unsigned_abs z)) z
own z = record { low = omega (arith, ints); high = omega (arith, ints) }

-- on one axis: an entry times twice a way, less the entry times the doubled middle
entry_part : (c a m n : ℤ) → IsWithin n (pos 2 *ℤ a -ℤ m) → IsWithin (pos (unsigned_abs c) *ℤ n) (pos 2 *ℤ (c *ℤ a) -ℤ c *ℤ m)
entry_part c a m n w = moved (pos (unsigned_abs c) *ℤ n) (c *ℤ (pos 2 *ℤ a -ℤ m)) (c *ℤ (pos 2 *ℤ a)) (c *ℤ m) (pos 2 *ℤ (c *ℤ a)) (mul_difference c (pos 2 *ℤ a) m) (twice c a) (within_product (pos (unsigned_abs c)) n c (pos 2 *ℤ a -ℤ m) (own c) w)
  where
    moved : (n x y z v : ℤ) → x ≡ y -ℤ z → y ≡ v → IsWithin n x → IsWithin n (v -ℤ z)
    moved n x y z v e f w = record { low = omega (arith, ints); high = omega (arith, ints) }

-- twice the form is within the sizes of the entries times n of the column's product with the doubled middle
pub form_near : (c t p m : Vec3) (n : ℤ) → AreWithin n (off t p m) → IsWithin (size_of c *ℤ n) (pos 2 *ℤ cam_q30_axis c t p -ℤ dot c m)
form_near c t p m n w =
    let x = pos (unsigned_abs c.x) in
    let y = pos (unsigned_abs c.y) in
    let z = pos (unsigned_abs c.z) in
    added (x *ℤ n) (y *ℤ n) (z *ℤ n) (size_of c *ℤ n) ((x +ℤ y) *ℤ n) (c.x *ℤ (p.x -ℤ t.x)) (c.y *ℤ (p.y -ℤ t.y)) (c.z *ℤ (p.z -ℤ t.z)) (c.x *ℤ m.x) (c.y *ℤ m.y) (c.z *ℤ m.z)
    (sum_mul (x +ℤ y) z n) (sum_mul x y n) (entry_part c.x (p.x -ℤ t.x) m.x n w.x) (entry_part c.y (p.y -ℤ t.y) m.y n w.y) (entry_part c.z (p.z -ℤ t.z) m.z n w.z)
  where
    added : (a b d s r x y z i j k : ℤ) → s ≡ r +ℤ d → r ≡ a +ℤ b → IsWithin a (pos 2 *ℤ x -ℤ i) → IsWithin b (pos 2 *ℤ y -ℤ j) → IsWithin d (pos 2 *ℤ z -ℤ k)
        → IsWithin s (pos 2 *ℤ (x +ℤ y +ℤ z) -ℤ (i +ℤ j +ℤ k))
    added a b d s r x y z i j k e f u v w = record { low = omega (arith, ints); high = omega (arith, ints) }

-- over plain numbers: f the form, q its floor, g the column's product with the middle, h the bound, x the ray point's coordinate, d the drift
reach_plain : (f q g h x d a b : ℤ) → IsFloor f unit q → IsWithin h (pos 2 *ℤ f -ℤ g) → IsWithin d (q -ℤ x) → IsFloor (g -ℤ h) two_units a → IsFloor (g +ℤ h) two_units b → IsFrom (a -ℤ d) (b +ℤ d) x
reach_plain f q g h x d a b i w v j k = record {
  low = omega (arith, ints, i.below, i.above, j.below, j.above, w.low, w.high, v.low, v.high);
  high = omega (arith, ints, i.below, i.above, k.below, k.above, w.low, w.high, v.low, v.high);
}

-- the coordinate along column c of a ray point that drifts by at most d is in the reach
pub in_reach : (c t p m : Vec3) (n d x : ℤ) → AreWithin n (off t p m) → IsWithin d (cam_axis c t p -ℤ x) → IsIn (reach_of c m n d) x
in_reach c t p m n d x w v =
    let g = dot c m in
    let h = size_of c *ℤ n in
    let one : pos 1 ≤ℤ two_units = omega (arith, ints) in
    reach_plain (cam_q30_axis c t p) (cam_axis c t p) g h x d (floor_div (g -ℤ h) two_units) (floor_div (g +ℤ h) two_units) (floor_is (cam_q30_axis c t p) unit unit_positive) (form_near c t p m n w) v (floor_is (g -ℤ h) two_units one) (floor_is (g +ℤ h) two_units one)
