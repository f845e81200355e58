-- A camera point that is brought to the world and back stays near.
use Rattle.std.proofs.Common.{◌≡◌, sym, ap, refl, ◌∙◌, arith}
use Rattle.std.specs.Prelude.{ℤ, pos, ◌+ℤ◌, ◌-ℤ◌, ◌*ℤ◌, ◌≤ℤ◌}
use Rattle.std.proofs.lemmas.Int.{ints}
use Rattle.fixed_geom.specs.Division.{IsFloor, floor_div}
use Rattle.fixed_geom.specs.declared.vector.Vec3.{Vec3}
use Rattle.fixed_geom.specs.Vectors.{IsWithin, AreWithin, vec, dot, minus}
use Rattle.fixed_geom.specs.Poses.{Pose, cam_q30_axis, unit, unit_squared, nearness, IsNear, cam_axis, cam, world, entry_bound, IsPose, column_x, column_y, column_z}
use Rattle.fixed_geom.proofs.Whole.{mul_sum, sum_mul, mul_turn, mul_group, mul_difference, difference_mul}
use Rattle.fixed_geom.proofs.Floors.{floor_is}
use Rattle.fixed_geom.proofs.Dots.{within_product, within_dot, unit_positive, columns_small}

-- the order of two factors of a dot is free
pub dot_turn : (a b : Vec3) → dot a b ≡ dot b a
dot_turn a b = three (a.x *ℤ b.x) (a.y *ℤ b.y) (a.z *ℤ b.z) (b.x *ℤ a.x) (b.y *ℤ a.y) (b.z *ℤ a.z) (mul_turn a.x b.x) (mul_turn a.y b.y) (mul_turn a.z b.z)
  where
    three : (a b c x y z : ℤ) → a ≡ x → b ≡ y → c ≡ z → a +ℤ b +ℤ c ≡ x +ℤ y +ℤ z
    three a b c x y z e f g = omega (arith, ints)

-- a factor goes into a sum of three
pub mul_three : (a x y z : ℤ) → a *ℤ (x +ℤ y +ℤ z) ≡ (a *ℤ x) +ℤ (a *ℤ y) +ℤ (a *ℤ z)
mul_three a x y z = mul_sum a (x +ℤ y) z ∙ ap (λ (w : ℤ). w +ℤ (a *ℤ z)) (mul_sum a x y)

three_mul : (x y z a : ℤ) → (x +ℤ y +ℤ z) *ℤ a ≡ (x *ℤ a) +ℤ (y *ℤ a) +ℤ (z *ℤ a)
three_mul x y z a = sum_mul (x +ℤ y) z a ∙ ap (λ (w : ℤ). w +ℤ (z *ℤ a)) (sum_mul x y a)

-- one row's part: a factor times the row times a point
row_part : (a x y z p q r : ℤ) → a *ℤ ((x *ℤ p) +ℤ (y *ℤ q) +ℤ (z *ℤ r)) ≡ ((a *ℤ x) *ℤ p) +ℤ ((a *ℤ y) *ℤ q) +ℤ ((a *ℤ z) *ℤ r)
row_part a x y z p q r =
    mul_three a (x *ℤ p) (y *ℤ q) (z *ℤ r)
    ∙ ap (λ (w : ℤ). w +ℤ (a *ℤ (y *ℤ q)) +ℤ (a *ℤ (z *ℤ r))) (sym (mul_group a x p))
    ∙ ap (λ (w : ℤ). ((a *ℤ x) *ℤ p) +ℤ w +ℤ (a *ℤ (z *ℤ r))) (sym (mul_group a y q))
    ∙ ap (λ (w : ℤ). ((a *ℤ x) *ℤ p) +ℤ ((a *ℤ y) *ℤ q) +ℤ w) (sym (mul_group a z r))

nine : (l0 l1 l2 r0 r1 r2 a b c d e f g h i : ℤ) → l0 ≡ a +ℤ b +ℤ c → l1 ≡ d +ℤ e +ℤ f → l2 ≡ g +ℤ h +ℤ i → r0 ≡ a +ℤ d +ℤ g → r1 ≡ b +ℤ e +ℤ h → r2 ≡ c +ℤ f +ℤ i → l0 +ℤ l1 +ℤ l2 ≡ r0 +ℤ r1 +ℤ r2
nine l0 l1 l2 r0 r1 r2 a b c d e f g h i p q r s t u = omega (arith, ints)

-- a column over the rows' products with a point is its products with the columns, each times the point's coordinate
pub gram_turn : (u a b c v : Vec3) → (u.x *ℤ dot (vec a.x b.x c.x) v) +ℤ (u.y *ℤ dot (vec a.y b.y c.y) v) +ℤ (u.z *ℤ dot (vec a.z b.z c.z) v)
    ≡ (dot u a *ℤ v.x) +ℤ (dot u b *ℤ v.y) +ℤ (dot u c *ℤ v.z)
gram_turn u a b c v =
    nine (u.x *ℤ dot (vec a.x b.x c.x) v) (u.y *ℤ dot (vec a.y b.y c.y) v) (u.z *ℤ dot (vec a.z b.z c.z) v) (dot u a *ℤ v.x) (dot u b *ℤ v.y) (dot u c *ℤ v.z)
    ((u.x *ℤ a.x) *ℤ v.x) ((u.x *ℤ b.x) *ℤ v.y) ((u.x *ℤ c.x) *ℤ v.z)
    ((u.y *ℤ a.y) *ℤ v.x) ((u.y *ℤ b.y) *ℤ v.y) ((u.y *ℤ c.y) *ℤ v.z)
    ((u.z *ℤ a.z) *ℤ v.x) ((u.z *ℤ b.z) *ℤ v.y) ((u.z *ℤ c.z) *ℤ v.z)
    (row_part u.x a.x b.x c.x v.x v.y v.z) (row_part u.y a.y b.y c.y v.x v.y v.z) (row_part u.z a.z b.z c.z v.x v.y v.z)
    (three_mul (u.x *ℤ a.x) (u.y *ℤ a.y) (u.z *ℤ a.z) v.x) (three_mul (u.x *ℤ b.x) (u.y *ℤ b.y) (u.z *ℤ b.z) v.y) (three_mul (u.x *ℤ c.x) (u.y *ℤ c.y) (u.z *ℤ c.z) v.z)

-- a factor near its target times a bounded number
near_part : (target g v a : ℤ) → IsNear target g → IsWithin a v → IsWithin (nearness *ℤ a) ((g *ℤ v) -ℤ (target *ℤ v))
near_part target g v a n w = within_is (nearness *ℤ a) ((g -ℤ target) *ℤ v) ((g *ℤ v) -ℤ (target *ℤ v)) (difference_mul g target v) (within_product nearness a (g -ℤ target) v n w)
  where
    within_is : (n x y : ℤ) → x ≡ y → IsWithin n x → IsWithin n y
    within_is n x y e w = record { low = omega (arith, ints); high = omega (arith, ints) }

-- what is left of a column over a point's floors
rest_of : (a e w : ℤ) → IsFloor a unit w → e ≡ a -ℤ (unit *ℤ w) → IsWithin unit e
rest_of a e w f is = record { low = omega (arith, ints, f.below); high = omega (arith, ints, f.above) }

-- one row's part, brought by the unit: u times (unit times w) is u a - u e
brought : (u a w t : ℤ) → unit *ℤ (u *ℤ ((t +ℤ w) -ℤ t)) ≡ (u *ℤ a) -ℤ (u *ℤ (a -ℤ (unit *ℤ w)))
brought u a w t =
    let plain : (t +ℤ w) -ℤ t ≡ w = omega (arith, ints) in
    let grouped : unit *ℤ (u *ℤ w) ≡ u *ℤ (unit *ℤ w) = sym (mul_group unit u w) ∙ ap (λ (z : ℤ). z *ℤ w) (mul_turn unit u) ∙ mul_group u unit w in
    let spread : u *ℤ (a -ℤ (unit *ℤ w)) ≡ (u *ℤ a) -ℤ (u *ℤ (unit *ℤ w)) = mul_difference u a (unit *ℤ w) in
    ap (λ (z : ℤ). unit *ℤ (u *ℤ z)) plain ∙ grouped ∙ sym (ap (λ (z : ℤ). (u *ℤ a) -ℤ z) spread ∙ cancelled (u *ℤ a) (u *ℤ (unit *ℤ w)))
  where
    cancelled : (x y : ℤ) → x -ℤ (x -ℤ y) ≡ y
    cancelled x y = omega (arith, ints)

spread_three : (x y z p q r a b c : ℤ) → unit *ℤ x ≡ p -ℤ a → unit *ℤ y ≡ q -ℤ b → unit *ℤ z ≡ r -ℤ c → unit *ℤ (x +ℤ y +ℤ z) ≡ (p +ℤ q +ℤ r) -ℤ (a +ℤ b +ℤ c)
spread_three x y z p q r a b c e f g = omega (arith, ints)

-- the sum of a column's products with what the floors leave
abbrev left_of : (u a b c v : Vec3) → ℤ
left_of u a b c v =
    dot u (vec (dot (vec a.x b.x c.x) v -ℤ (unit *ℤ floor_div (dot (vec a.x b.x c.x) v) unit)) (dot (vec a.y b.y c.y) v -ℤ (unit *ℤ floor_div (dot (vec a.y b.y c.y) v) unit)) (dot (vec a.z b.z c.z) v -ℤ (unit *ℤ floor_div (dot (vec a.z b.z c.z) v) unit)))

left_within : (u a b c v : Vec3) → AreWithin entry_bound u → IsWithin (pos 3 *ℤ (entry_bound *ℤ unit)) (left_of u a b c v)
left_within u a b c v small =
    let x = dot (vec a.x b.x c.x) v in
    let y = dot (vec a.y b.y c.y) v in
    let z = dot (vec a.z b.z c.z) v in
    within_dot entry_bound unit u (vec (x -ℤ (unit *ℤ floor_div x unit)) (y -ℤ (unit *ℤ floor_div y unit)) (z -ℤ (unit *ℤ floor_div z unit))) small
    (record {
      x = rest_of x (x -ℤ (unit *ℤ floor_div x unit)) (floor_div x unit) (floor_is x unit unit_positive) refl;
      y = rest_of y (y -ℤ (unit *ℤ floor_div y unit)) (floor_div y unit) (floor_is y unit unit_positive) refl;
      z = rest_of z (z -ℤ (unit *ℤ floor_div z unit)) (floor_div z unit) (floor_is z unit unit_positive) refl;
    })

-- the world point of v, where a, b, c are the columns
abbrev raised : (t a b c v : Vec3) → Vec3
raised t a b c v = vec (t.x +ℤ floor_div (dot (vec a.x b.x c.x) v) unit) (t.y +ℤ floor_div (dot (vec a.y b.y c.y) v) unit) (t.z +ℤ floor_div (dot (vec a.z b.z c.z) v) unit)

-- a scaled camera coordinate of a world point, times the unit
cam_q30_axis_raised : (u t a b c v : Vec3) → unit *ℤ cam_q30_axis u t (raised t a b c v) ≡ ((dot u a *ℤ v.x) +ℤ (dot u b *ℤ v.y) +ℤ (dot u c *ℤ v.z)) -ℤ left_of u a b c v
cam_q30_axis_raised u t a b c v =
    let x = dot (vec a.x b.x c.x) v in
    let y = dot (vec a.y b.y c.y) v in
    let z = dot (vec a.z b.z c.z) v in
    let i = floor_div x unit in
    let j = floor_div y unit in
    let k = floor_div z unit in
    spread_three (u.x *ℤ ((t.x +ℤ i) -ℤ t.x)) (u.y *ℤ ((t.y +ℤ j) -ℤ t.y)) (u.z *ℤ ((t.z +ℤ k) -ℤ t.z)) (u.x *ℤ x) (u.y *ℤ y) (u.z *ℤ z) (u.x *ℤ (x -ℤ (unit *ℤ i))) (u.y *ℤ (y -ℤ (unit *ℤ j))) (u.z *ℤ (z -ℤ (unit *ℤ k)))
    (brought u.x x i t.x) (brought u.y y j t.y) (brought u.z z k t.z)
    ∙ ap (λ (w : ℤ). w -ℤ left_of u a b c v) (gram_turn u a b c v)

near_three : (n a b c x y z p q r : ℤ) → IsWithin (n *ℤ a) (x -ℤ p) → IsWithin (n *ℤ b) (y -ℤ q) → IsWithin (n *ℤ c) (z -ℤ r) → n *ℤ (a +ℤ b +ℤ c) ≡ (n *ℤ a) +ℤ (n *ℤ b) +ℤ (n *ℤ c) → IsWithin (n *ℤ (a +ℤ b +ℤ c)) ((x +ℤ y +ℤ z) -ℤ (p +ℤ q +ℤ r))
near_three n a b c x y z p q r u v w e = added (n *ℤ a) (n *ℤ b) (n *ℤ c) (n *ℤ (a +ℤ b +ℤ c)) x y z p q r u v w e
  where
    added : (a b c s x y z p q r : ℤ) → IsWithin a (x -ℤ p) → IsWithin b (y -ℤ q) → IsWithin c (z -ℤ r) → s ≡ a +ℤ b +ℤ c → IsWithin s ((x +ℤ y +ℤ z) -ℤ (p +ℤ q +ℤ r))
    added a b c s x y z p q r u v w e = record { low = omega (arith, ints); high = omega (arith, ints) }

-- the last step, over plain numbers: n the scaled camera coordinate, c its floor, g the products' sum, v the coordinate, l what is left, m the sum of the bounds, q its floor by 4096
back : (n c g v l m q : ℤ) → unit *ℤ n ≡ g -ℤ l → IsFloor n unit c → IsWithin (nearness *ℤ m) (g -ℤ (unit_squared *ℤ v)) → IsWithin (pos 3 *ℤ (entry_bound *ℤ unit)) l → IsFloor m (pos 4096) q → IsWithin (q +ℤ pos 5) (c -ℤ v)
back n c g v l m q e f w k d = record {
  low = omega (arith, ints, f.below, f.above, d.below, d.above, w.low, w.high, k.low, k.high);
  high = omega (arith, ints, f.below, f.above, d.below, d.above, w.low, w.high, k.low, k.high);
}

aimed : (n g p q : ℤ) → p ≡ q → IsWithin n (g -ℤ p) → IsWithin n (g -ℤ q)
aimed n g p q e w = record { low = omega (arith, ints); high = omega (arith, ints) }

-- one axis: u is its column, w the coordinate, and the column's products with the columns a, b, c are near their targets
on_axis : (u t a b c v : Vec3) (k l m w p q r : ℤ) → AreWithin entry_bound u → IsNear k (dot u a) → IsNear l (dot u b) → IsNear m (dot u c) → IsWithin p v.x → IsWithin q v.y → IsWithin r v.z
    → (k *ℤ v.x) +ℤ (l *ℤ v.y) +ℤ (m *ℤ v.z) ≡ unit_squared *ℤ w → IsWithin (floor_div (p +ℤ q +ℤ r) (pos 4096) +ℤ pos 5) (cam_axis u t (raised t a b c v) -ℤ w)
on_axis u t a b c v k l m w p q r small na nb nc x y z is =
    let g = (dot u a *ℤ v.x) +ℤ (dot u b *ℤ v.y) +ℤ (dot u c *ℤ v.z) in
    let n = cam_q30_axis u t (raised t a b c v) in
    let sums : IsWithin (nearness *ℤ (p +ℤ q +ℤ r)) (g -ℤ ((k *ℤ v.x) +ℤ (l *ℤ v.y) +ℤ (m *ℤ v.z))) =
    near_three nearness p q r (dot u a *ℤ v.x) (dot u b *ℤ v.y) (dot u c *ℤ v.z) (k *ℤ v.x) (l *ℤ v.y) (m *ℤ v.z) (near_part k (dot u a) v.x p na x) (near_part l (dot u b) v.y q nb y) (near_part m (dot u c) v.z r nc z) (mul_three nearness p q r) in
    back n (cam_axis u t (raised t a b c v)) g w (left_of u a b c v) (p +ℤ q +ℤ r) (floor_div (p +ℤ q +ℤ r) (pos 4096)) (cam_q30_axis_raised u t a b c v) (floor_is n unit unit_positive)
    (aimed (nearness *ℤ (p +ℤ q +ℤ r)) g ((k *ℤ v.x) +ℤ (l *ℤ v.y) +ℤ (m *ℤ v.z)) (unit_squared *ℤ w) is sums) (left_within u a b c v small) (floor_is (p +ℤ q +ℤ r) (pos 4096) (omega (arith, ints)))

only_x : (x y z : ℤ) → (unit_squared *ℤ x) +ℤ (pos 0 *ℤ y) +ℤ (pos 0 *ℤ z) ≡ unit_squared *ℤ x
only_x x y z = omega (arith, ints)

only_y : (x y z : ℤ) → (pos 0 *ℤ x) +ℤ (unit_squared *ℤ y) +ℤ (pos 0 *ℤ z) ≡ unit_squared *ℤ y
only_y x y z = omega (arith, ints)

only_z : (x y z : ℤ) → (pos 0 *ℤ x) +ℤ (pos 0 *ℤ y) +ℤ (unit_squared *ℤ z) ≡ unit_squared *ℤ z
only_z x y z = omega (arith, ints)

turned : (k a b : ℤ) → a ≡ b → IsNear k a → IsNear k b
turned k a b e w = record { low = omega (arith, ints); high = omega (arith, ints) }

-- a camera point brought to the world and back moves by at most the sum of the bounds of its coordinates over 4096, and 5
pub near_round_trip : (m : Pose) (v : Vec3) (a b c : ℤ) → IsPose m → IsWithin a v.x → IsWithin b v.y → IsWithin c v.z → AreWithin (floor_div (a +ℤ b +ℤ c) (pos 4096) +ℤ pos 5) (minus (cam m (world m v)) v)
near_round_trip m v a b c o x y z =
    let s = columns_small m o.range in
    let n = o.rotation in
    let i = column_x m in
    let j = column_y m in
    let k = column_z m in
    record {
      x = on_axis i m.t i j k v unit_squared (pos 0) (pos 0) v.x a b c s.0 n.xx n.xy n.xz x y z (only_x v.x v.y v.z);
      y = on_axis j m.t i j k v (pos 0) unit_squared (pos 0) v.y a b c s.1 (turned (pos 0) (dot i j) (dot j i) (dot_turn i j) n.xy) n.yy n.yz x y z (only_y v.x v.y v.z);
      z = on_axis k m.t i j k v (pos 0) (pos 0) unit_squared v.z a b c s.2 (turned (pos 0) (dot i k) (dot k i) (dot_turn i k) n.xz) (turned (pos 0) (dot j k) (dot k j) (dot_turn j k) n.yz) n.zz x y z (only_z v.x v.y v.z);
    }

-- a wider bound, of the sum over 1024, and 8
pub round_trip : (m : Pose) (v : Vec3) (a b c : ℤ) → IsPose m → IsWithin a v.x → IsWithin b v.y → IsWithin c v.z → AreWithin (floor_div (a +ℤ b +ℤ c) (pos 1024) +ℤ pos 8) (minus (cam m (world m v)) v)
round_trip m v a b c o x y z =
    let near = near_round_trip m v a b c o x y z in
    let s = a +ℤ b +ℤ c in
    let p = floor_is s (pos 4096) (omega (arith, ints)) in
    let q = floor_is s (pos 1024) (omega (arith, ints)) in
    let s0 = summed a b c v.x v.y v.z x y z in
    record { x = wider s _ _ _ s0 p q near.x; y = wider s _ _ _ s0 p q near.y; z = wider s _ _ _ s0 p q near.z }
  where
    summed : (a b c x y z : ℤ) → IsWithin a x → IsWithin b y → IsWithin c z → pos 0 ≤ℤ (a +ℤ b +ℤ c)
    summed a b c x y z u v w = omega (arith, ints)

    wider : (s p q d : ℤ) → pos 0 ≤ℤ s → IsFloor s (pos 4096) p → IsFloor s (pos 1024) q → IsWithin (p +ℤ pos 5) d → IsWithin (q +ℤ pos 8) d
    wider s p q d s0 f g w =
        let more : p ≤ℤ (q +ℤ pos 3) = omega (arith, ints, f.below, f.above, g.below, g.above) in
        record { low = omega (arith, ints); high = omega (arith, ints) }
