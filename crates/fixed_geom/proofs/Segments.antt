-- A point near a segment has camera coordinates near those of the segment's ends.
use Rattle.std.proofs.Common.{◌≡◌, sym, ap, ◌∙◌, arith}
use Rattle.std.specs.Prelude.{ℤ, pos, ◌+ℤ◌, ◌-ℤ◌, ◌*ℤ◌, ◌≤ℤ◌, ◌<ℤ◌}
use Rattle.std.proofs.lemmas.Int.{ints}
use Rattle.fixed_geom.specs.Division.{IsFloor}
use Rattle.fixed_geom.specs.declared.vector.Vec3.{Vec3}
use Rattle.fixed_geom.specs.Vectors.{IsWithin, AreWithin, vec, dot}
use Rattle.fixed_geom.specs.Poses.{Pose, cam_q30_axis, unit, cam_axis, cam, entry_bound, HasPoseRange, column_x, column_y, column_z}
use Rattle.fixed_geom.proofs.Whole.{mul_sum, mul_turn, mul_group, mul_order, mul_difference, difference_mul}
use Rattle.fixed_geom.proofs.Floors.{floor_is, floor_above, floor_below, cancel}
use Rattle.fixed_geom.proofs.Dots.{within_dot, unit_positive, columns_small}
use Rattle.fixed_geom.proofs.RoundTrip.{mul_three}

-- the first two of three factors change places
pub mul_swap : (a b c : ℤ) → a *ℤ (b *ℤ c) ≡ b *ℤ (a *ℤ c)
mul_swap a b c = sym (mul_group a b c) ∙ ap (λ (z : ℤ). z *ℤ c) (mul_turn a b) ∙ mul_group b a c

-- q times the segment's point at p / q, and how far q d is from it
abbrev pub along : (p q a e : ℤ) → ℤ
along p q a e = a *ℤ q +ℤ p *ℤ (e -ℤ a)

abbrev pub off : (p q : ℤ) (a e d : Vec3) → Vec3
off p q a e d = vec (q *ℤ d.x -ℤ along p q a.x e.x) (q *ℤ d.y -ℤ along p q a.y e.y) (q *ℤ d.z -ℤ along p q a.z e.z)

-- the same from the translation on
off_from : (p q a e d t : ℤ) → q *ℤ d -ℤ along p q a e ≡ q *ℤ (d -ℤ t) -ℤ ((q -ℤ p) *ℤ (a -ℤ t) +ℤ p *ℤ (e -ℤ t))
off_from p q a e d t =
    plain (q *ℤ d) (q *ℤ t) (q *ℤ a) (p *ℤ a) (p *ℤ t) (p *ℤ e) (a *ℤ q) (p *ℤ (e -ℤ a)) (q *ℤ (d -ℤ t)) ((q -ℤ p) *ℤ (a -ℤ t)) (q *ℤ (a -ℤ t)) (p *ℤ (a -ℤ t)) (p *ℤ (e -ℤ t))
    (mul_turn a q) (mul_difference p e a) (mul_difference q d t) (difference_mul q p (a -ℤ t)) (mul_difference q a t) (mul_difference p a t) (mul_difference p e t)
  where
    plain : (qd qt qa pa pt pe aq pea qdt qpat qat pat pet : ℤ) → aq ≡ qa → pea ≡ pe -ℤ pa → qdt ≡ qd -ℤ qt → qpat ≡ qat -ℤ pat → qat ≡ qa -ℤ qt → pat ≡ pa -ℤ pt → pet ≡ pe -ℤ pt → qd -ℤ (aq +ℤ pea) ≡ qdt -ℤ (qpat +ℤ pet)
    plain qd qt qa pa pt pe aq pea qdt qpat qat pat pet a b c d e f g = omega (arith, ints)

-- one axis: an entry r times the offset of q d, from the offsets of the ends
axis_cam_q30 : (r p q a e d t : ℤ) → q *ℤ (r *ℤ (d -ℤ t)) ≡ (q -ℤ p) *ℤ (r *ℤ (a -ℤ t)) +ℤ p *ℤ (r *ℤ (e -ℤ t)) +ℤ r *ℤ (q *ℤ d -ℤ along p q a e)
axis_cam_q30 r p q a e d t =
    plain (q *ℤ (r *ℤ (d -ℤ t))) ((q -ℤ p) *ℤ (r *ℤ (a -ℤ t))) (p *ℤ (r *ℤ (e -ℤ t))) (r *ℤ (q *ℤ d -ℤ along p q a e)) (r *ℤ (q *ℤ (d -ℤ t))) (r *ℤ ((q -ℤ p) *ℤ (a -ℤ t))) (r *ℤ (p *ℤ (e -ℤ t))) (r *ℤ ((q -ℤ p) *ℤ (a -ℤ t) +ℤ p *ℤ (e -ℤ t)))
    (mul_swap q r (d -ℤ t)) (mul_swap (q -ℤ p) r (a -ℤ t)) (mul_swap p r (e -ℤ t))
    (ap (λ (z : ℤ). r *ℤ z) (off_from p q a e d t) ∙ mul_difference r (q *ℤ (d -ℤ t)) ((q -ℤ p) *ℤ (a -ℤ t) +ℤ p *ℤ (e -ℤ t)))
    (mul_sum r ((q -ℤ p) *ℤ (a -ℤ t)) (p *ℤ (e -ℤ t)))
  where
    plain : (x y z w x' y' z' s : ℤ) → x ≡ x' → y ≡ y' → z ≡ z' → w ≡ x' -ℤ s → s ≡ y' +ℤ z' → x ≡ y +ℤ z +ℤ w
    plain x y z w x' y' z' s a b c d e = omega (arith, ints)

-- the scaled camera coordinate of d, from those of the ends
pub segment_cam_q30_axis : (c t a e d : Vec3) (p q : ℤ) → q *ℤ cam_q30_axis c t d ≡ (q -ℤ p) *ℤ cam_q30_axis c t a +ℤ p *ℤ cam_q30_axis c t e +ℤ dot c (off p q a e d)
segment_cam_q30_axis c t a e d p q =
    plain (q *ℤ cam_q30_axis c t d) ((q -ℤ p) *ℤ cam_q30_axis c t a) (p *ℤ cam_q30_axis c t e)
    (q *ℤ (c.x *ℤ (d.x -ℤ t.x))) (q *ℤ (c.y *ℤ (d.y -ℤ t.y))) (q *ℤ (c.z *ℤ (d.z -ℤ t.z)))
    ((q -ℤ p) *ℤ (c.x *ℤ (a.x -ℤ t.x))) ((q -ℤ p) *ℤ (c.y *ℤ (a.y -ℤ t.y))) ((q -ℤ p) *ℤ (c.z *ℤ (a.z -ℤ t.z)))
    (p *ℤ (c.x *ℤ (e.x -ℤ t.x))) (p *ℤ (c.y *ℤ (e.y -ℤ t.y))) (p *ℤ (c.z *ℤ (e.z -ℤ t.z)))
    (c.x *ℤ (q *ℤ d.x -ℤ along p q a.x e.x)) (c.y *ℤ (q *ℤ d.y -ℤ along p q a.y e.y)) (c.z *ℤ (q *ℤ d.z -ℤ along p q a.z e.z))
    (mul_three q (c.x *ℤ (d.x -ℤ t.x)) (c.y *ℤ (d.y -ℤ t.y)) (c.z *ℤ (d.z -ℤ t.z)))
    (mul_three (q -ℤ p) (c.x *ℤ (a.x -ℤ t.x)) (c.y *ℤ (a.y -ℤ t.y)) (c.z *ℤ (a.z -ℤ t.z)))
    (mul_three p (c.x *ℤ (e.x -ℤ t.x)) (c.y *ℤ (e.y -ℤ t.y)) (c.z *ℤ (e.z -ℤ t.z)))
    (axis_cam_q30 c.x p q a.x e.x d.x t.x) (axis_cam_q30 c.y p q a.y e.y d.y t.y) (axis_cam_q30 c.z p q a.z e.z d.z t.z)
  where
    plain : (l m n x y z i j k f g h u v w : ℤ) → l ≡ x +ℤ y +ℤ z → m ≡ i +ℤ j +ℤ k → n ≡ f +ℤ g +ℤ h → x ≡ i +ℤ f +ℤ u → y ≡ j +ℤ g +ℤ v → z ≡ k +ℤ h +ℤ w → l ≡ m +ℤ n +ℤ (u +ℤ v +ℤ w)
    plain l m n x y z i j k f g h u v w a b c d e o = omega (arith, ints)

-- ---- bounds

-- the weights of the ends add up
weighed : (p q x : ℤ) → (q -ℤ p) *ℤ x +ℤ p *ℤ x ≡ q *ℤ x
weighed p q x = plain (q *ℤ x) (p *ℤ x) ((q -ℤ p) *ℤ x) (difference_mul q p x)
  where
    plain : (a b c : ℤ) → c ≡ a -ℤ b → c +ℤ b ≡ a
    plain a b c h = omega (arith, ints)

-- a lower bound of both ends' scaled camera coordinates is one of the weighed sum
pub lower_sum : (p q a e l : ℤ) → pos 0 ≤ℤ p → p ≤ℤ q → l ≤ℤ a → l ≤ℤ e → (q *ℤ l) ≤ℤ ((q -ℤ p) *ℤ a +ℤ p *ℤ e)
lower_sum p q a e l p0 pq la le = plain ((q -ℤ p) *ℤ l) (p *ℤ l) (q *ℤ l) ((q -ℤ p) *ℤ a) (p *ℤ e) (weighed p q l) (mul_order (q -ℤ p) l a (omega (arith, ints)) la) (mul_order p l e p0 le)
  where
    plain : (x y z a e : ℤ) → x +ℤ y ≡ z → x ≤ℤ a → y ≤ℤ e → z ≤ℤ (a +ℤ e)
    plain x y z a e h i j = omega (arith, ints)

-- an upper bound of both is one too
pub upper_sum : (p q a e u : ℤ) → pos 0 ≤ℤ p → p ≤ℤ q → a ≤ℤ u → e ≤ℤ u → ((q -ℤ p) *ℤ a +ℤ p *ℤ e) ≤ℤ (q *ℤ u)
upper_sum p q a e u p0 pq la le = plain ((q -ℤ p) *ℤ u) (p *ℤ u) (q *ℤ u) ((q -ℤ p) *ℤ a) (p *ℤ e) (weighed p q u) (mul_order (q -ℤ p) a u (omega (arith, ints)) la) (mul_order p e u p0 le)
  where
    plain : (x y z a e : ℤ) → x +ℤ y ≡ z → a ≤ℤ x → e ≤ℤ y → (a +ℤ e) ≤ℤ z
    plain x y z a e h i j = omega (arith, ints)

-- q times a bound of one unit times k
pub cam_q30_axis_low : (f a e o p q l k : ℤ) → pos 1 ≤ℤ q → pos 0 ≤ℤ p → p ≤ℤ q → q *ℤ f ≡ (q -ℤ p) *ℤ a +ℤ p *ℤ e +ℤ o → IsWithin (q *ℤ (unit *ℤ k)) o → (unit *ℤ l) ≤ℤ a → (unit *ℤ l) ≤ℤ e → (unit *ℤ (l -ℤ k)) ≤ℤ f
cam_q30_axis_low f a e o p q l k q1 p0 pq is w la le =
    cancel q (unit *ℤ (l -ℤ k)) f q1
    (plain (q *ℤ (unit *ℤ (l -ℤ k))) (q *ℤ (unit *ℤ l)) (q *ℤ (unit *ℤ k)) ((q -ℤ p) *ℤ a +ℤ p *ℤ e) o (q *ℤ f) q is w (lower_sum p q a e (unit *ℤ l) p0 pq la le) (ap (λ (z : ℤ). q *ℤ z) (mul_difference unit l k) ∙ mul_difference q (unit *ℤ l) (unit *ℤ k)) q1)
  where
    plain : (x ql qk s o f q : ℤ) → f ≡ s +ℤ o → IsWithin qk o → ql ≤ℤ s → x ≡ ql -ℤ qk → pos 1 ≤ℤ q → x <ℤ (f +ℤ q)
    plain x ql qk s o f q h w i j k = omega (arith, ints)

pub cam_q30_axis_high : (f a e o p q u k : ℤ) → pos 1 ≤ℤ q → pos 0 ≤ℤ p → p ≤ℤ q → q *ℤ f ≡ (q -ℤ p) *ℤ a +ℤ p *ℤ e +ℤ o → IsWithin (q *ℤ (unit *ℤ k)) o → a ≤ℤ u → e ≤ℤ u → f ≤ℤ (u +ℤ unit *ℤ k)
cam_q30_axis_high f a e o p q u k q1 p0 pq is w la le =
    cancel q f (u +ℤ unit *ℤ k) q1
    (plain (q *ℤ (u +ℤ unit *ℤ k)) (q *ℤ u) (q *ℤ (unit *ℤ k)) ((q -ℤ p) *ℤ a +ℤ p *ℤ e) o (q *ℤ f) q is w (upper_sum p q a e u p0 pq la le) (mul_sum q u (unit *ℤ k)) q1)
  where
    plain : (x qu qk s o f q : ℤ) → f ≡ s +ℤ o → IsWithin qk o → s ≤ℤ qu → x ≡ qu +ℤ qk → pos 1 ≤ℤ q → f <ℤ (x +ℤ q)
    plain x qu qk s o f q h w i j k = omega (arith, ints)

-- a number between two bounds
pub record IsBetween (l u z : ℤ) : Type 0 where
  pub low : l ≤ℤ z
  pub high : z ≤ℤ u

-- the camera coordinate of d is within k of the bounds of the ends' coordinates
pub segment_between : (c t a e d : Vec3) (p q l u k : ℤ) → pos 1 ≤ℤ q → pos 0 ≤ℤ p → p ≤ℤ q → IsWithin (q *ℤ (unit *ℤ k)) (dot c (off p q a e d)) → IsBetween l u (cam_axis c t a) → IsBetween l u (cam_axis c t e) → IsBetween (l -ℤ k) (u +ℤ k) (cam_axis c t d)
segment_between c t a e d p q l u k q1 p0 pq w ia ie =
    let fa = cam_q30_axis c t a in
    let fe = cam_q30_axis c t e in
    let fd = cam_q30_axis c t d in
    let ca = floor_is fa unit unit_positive in
    let ce = floor_is fe unit unit_positive in
    let cd = floor_is fd unit unit_positive in
    let low = cam_q30_axis_low fd fa fe (dot c (off p q a e d)) p q l k q1 p0 pq (segment_cam_q30_axis c t a e d p q) w (from_low fa (cam_axis c t a) l ca ia.low) (from_low fe (cam_axis c t e) l ce ie.low) in
    let high = cam_q30_axis_high fd fa fe (dot c (off p q a e d)) p q (unit *ℤ u +ℤ unit -ℤ pos 1) k q1 p0 pq (segment_cam_q30_axis c t a e d p q) w (from_high fa (cam_axis c t a) u ca ia.high) (from_high fe (cam_axis c t e) u ce ie.high) in
    record {
      low = floor_above fd unit (cam_axis c t d) (l -ℤ k) unit_positive cd low;
      high = floor_below fd unit (cam_axis c t d) (u +ℤ k) unit_positive cd (ended fd u k high);
    }
  where
    from_low : (f c l : ℤ) → IsFloor f unit c → l ≤ℤ c → (unit *ℤ l) ≤ℤ f
    from_low f c l is h = omega (arith, ints, is.below)

    from_high : (f c u : ℤ) → IsFloor f unit c → c ≤ℤ u → f ≤ℤ (unit *ℤ u +ℤ unit -ℤ pos 1)
    from_high f c u is h = omega (arith, ints, is.above)

    ended : (f u k : ℤ) → f ≤ℤ (unit *ℤ u +ℤ unit -ℤ pos 1 +ℤ unit *ℤ k) → f <ℤ (unit *ℤ (u +ℤ k) +ℤ unit)
    ended f u k h = omega (arith, ints)

-- each offset within 4 s q gives a sum within q times the unit times 13 s
off_within : (c o : Vec3) (s q : ℤ) → pos 0 ≤ℤ s → pos 1 ≤ℤ q → AreWithin entry_bound c → AreWithin (pos 4 *ℤ (s *ℤ q)) o → IsWithin (q *ℤ (unit *ℤ (pos 13 *ℤ s))) (dot c o)
off_within c o s q s0 q1 small near =
    let sq0 : pos 0 ≤ℤ (s *ℤ q) = product_up s q s0 (omega (arith, ints)) in
    let is : q *ℤ (unit *ℤ (pos 13 *ℤ s)) ≡ unit *ℤ (pos 13 *ℤ (s *ℤ q)) =
    mul_swap q unit (pos 13 *ℤ s) ∙ ap (λ (z : ℤ). unit *ℤ z) (mul_swap q (pos 13) s ∙ ap (λ (z : ℤ). pos 13 *ℤ z) (mul_turn q s)) in
    plain (s *ℤ q) (q *ℤ (unit *ℤ (pos 13 *ℤ s))) (dot c o) sq0 is (within_dot entry_bound (pos 4 *ℤ (s *ℤ q)) c o small near)
  where
    product_up : (d u : ℤ) → pos 0 ≤ℤ d → pos 0 ≤ℤ u → pos 0 ≤ℤ (d *ℤ u)
    product_up d u p q = let m = mul_order d (pos 0) u p q in omega (arith, ints)

    plain : (t n x : ℤ) → pos 0 ≤ℤ t → n ≡ unit *ℤ (pos 13 *ℤ t) → IsWithin (pos 3 *ℤ (entry_bound *ℤ (pos 4 *ℤ t))) x → IsWithin n x
    plain t n x h e w = record { low = omega (arith, ints); high = omega (arith, ints) }

-- all camera coordinates: a point within 4 s of the segment's point at p / q is within 13 s of the bounds of the ends
pub record AreBetween (l u v : Vec3) : Type 0 where
  pub x : IsBetween l.x u.x v.x
  pub y : IsBetween l.y u.y v.y
  pub z : IsBetween l.z u.z v.z

pub near_segment : (m : Pose) (a e d l u : Vec3) (s p q : ℤ) → HasPoseRange m → pos 0 ≤ℤ s → pos 1 ≤ℤ q → pos 0 ≤ℤ p → p ≤ℤ q → AreWithin (pos 4 *ℤ (s *ℤ q)) (off p q a e d) → AreBetween l u (cam m a) → AreBetween l u (cam m e)
    → AreBetween (vec (l.x -ℤ pos 13 *ℤ s) (l.y -ℤ pos 13 *ℤ s) (l.z -ℤ pos 13 *ℤ s)) (vec (u.x +ℤ pos 13 *ℤ s) (u.y +ℤ pos 13 *ℤ s) (u.z +ℤ pos 13 *ℤ s)) (cam m d)
near_segment m a e d l u s p q r s0 q1 p0 pq near ia ie =
    let c = columns_small m r in
    let o = off p q a e d in
    record {
      x = segment_between (column_x m) m.t a e d p q l.x u.x (pos 13 *ℤ s) q1 p0 pq (off_within (column_x m) o s q s0 q1 c.0 near) ia.x ie.x;
      y = segment_between (column_y m) m.t a e d p q l.y u.y (pos 13 *ℤ s) q1 p0 pq (off_within (column_y m) o s q s0 q1 c.1 near) ia.y ie.y;
      z = segment_between (column_z m) m.t a e d p q l.z u.z (pos 13 *ℤ s) q1 p0 pq (off_within (column_z m) o s q s0 q1 c.2 near) ia.z ie.z;
    }
