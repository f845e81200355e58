-- The samples that a camera takes.
use Rattle.std.proofs.Common.{◌≡◌, ◌∙◌, ℕ, ◌<◌, Bool, true, false, cond, refl, sym, ap, subst, arith}
use Rattle.std.specs.Prelude.{ℤ, pos, ◌+ℤ◌, ◌-ℤ◌, ◌*ℤ◌, ◌≤ℤ◌, ◌<ℤ◌, ◌==◌, IsTrue, Option, Some, None, IfSome}
use Rattle.std.specs.Bool.{then_some}
use Rattle.std.proofs.lemmas.Bool.{eqb-true}
use Rattle.std.proofs.lemmas.Bool.Decides.{same_from_decides}
use Rattle.std.proofs.lemmas.Int.{ints, to_z-of_z}
use mir.Val.{SFits}
use mir.Syntax.{w64}
use Rattle.fixed_geom.specs.Division.{IsFloor}
use Rattle.fixed_geom.specs.Vectors.{IsWithin}
use Rattle.fixed_geom.proofs.Floors.{floor_above, floor_below}
use Rattle.fixed_geom.proofs.Machine.{read}
use Rattle.fixed_geom.proofs.Whole.{mul_order, mul_sum, mul_turn}
use Rattle.camera.specs.declared.camera.CameraFields.{CameraFields}
use Rattle.camera.specs.Cameras.{HasRanges, depth_of, within}
use Rattle.camera.specs.SampleRanges.{IsRangeOf}
use Rattle.camera.proofs.ProjectionLemmas.{within_parts, within_holds}
use Rattle.camera.proofs.RangeLemmas.{between}
use Rattle.camera.proofs.RayLemmas.{is_shown}

-- ---- the range

-- a sample is from least to most where its depth is from near to far
same_range : (near far unit least most z : ℤ) → pos 1 ≤ℤ unit → IsFloor (near -ℤ pos 1) unit (least -ℤ pos 1) → IsFloor far unit most → within least most z ≡ within near far (z *ℤ unit)
same_range near far unit least most z u1 low high = same_from_decides _ _ (deep, shallow) (within_parts near far d, λ p. within_holds near far d p.0 p.1)
  where
    d : ℤ
    d = z *ℤ unit

    u0 : pos 0 ≤ℤ unit
    u0 = omega (arith, ints, u1)

    past : (near x d b u : ℤ) → (near -ℤ pos 1) <ℤ (b +ℤ u) → x ≡ b +ℤ u → x ≤ℤ d → near ≤ℤ d
    past near x d b u h e k = omega (arith, ints)

    upto : (x y d far : ℤ) → x ≤ℤ far → y ≤ℤ x → d ≡ y → d ≤ℤ far
    upto x y d far h k e = omega (arith, ints)

    deep : IsTrue (within least most z) → (near ≤ℤ d) × (d ≤ℤ far)
    deep t =
        let p = within_parts least most z t in
        let b = least -ℤ pos 1 in
        let x : unit *ℤ (b +ℤ pos 1) ≡ unit *ℤ b +ℤ unit = mul_sum unit b (pos 1) ∙ ap (λ t. unit *ℤ b +ℤ t) (omega (arith, ints)) in
        let up : (unit *ℤ (b +ℤ pos 1)) ≤ℤ (unit *ℤ z) = mul_order unit (b +ℤ pos 1) z u0 (omega (arith, ints, p.0)) in
        let turned : z *ℤ unit ≡ unit *ℤ z = mul_turn z unit in (
          past near (unit *ℤ (b +ℤ pos 1)) d (unit *ℤ b) unit low.above x (subst (λ t. (unit *ℤ (b +ℤ pos 1)) ≤ℤ t) (sym turned) up),
          upto (unit *ℤ most) (unit *ℤ z) d far high.below (mul_order unit z most u0 p.1) turned,
        )

    before : (near d uz u1 : ℤ) → near ≤ℤ d → d ≡ uz → (near -ℤ pos 1) <ℤ uz
    before near d uz u1 h e = omega (arith, ints)

    next : (least z : ℤ) → (least -ℤ pos 1) ≤ℤ (z -ℤ pos 1) → least ≤ℤ z
    next least z h = omega (arith, ints)

    shallow : (near ≤ℤ d) × (d ≤ℤ far) → IsTrue (within least most z)
    shallow p =
        let turned : z *ℤ unit ≡ unit *ℤ z = mul_turn z unit in
        let x : unit *ℤ z ≡ unit *ℤ (z -ℤ pos 1) +ℤ unit = ap (λ t. unit *ℤ t) (omega (arith, ints)) ∙ mul_sum unit (z -ℤ pos 1) (pos 1) ∙ ap (λ t. unit *ℤ (z -ℤ pos 1) +ℤ t) (omega (arith, ints)) in
        within_holds least most z
        (next least z (floor_below (near -ℤ pos 1) unit (least -ℤ pos 1) (z -ℤ pos 1) u1 low (before near d (unit *ℤ (z -ℤ pos 1) +ℤ unit) unit p.0 (turned ∙ x))))
        (floor_above far unit most z u1 high (subst (λ t. t ≤ℤ far) turned p.1))

-- ---- the depth

pick : (d : ℤ) (t b : Bool) → (t ≡ true → b ≡ true → ⊥) → then_some b d ≡ cond t None (cond b (Some d) None)
pick d true true f = absurd (f refl refl)
pick d true false f = refl
pick d false true f = refl
pick d false false f = refl

depth_is : (k : CameraFields) (raw : ℕ) (unit least most : ℤ) → IsRangeOf k unit least most → then_some (within least most (pos raw)) (pos raw *ℤ unit) ≡ depth_of k raw
depth_is k raw unit least most is =
    ap (λ u. then_some (within least most (pos raw)) (pos raw *ℤ u)) is.same_unit
    ∙ ap (λ b. then_some b d) (same_range k.near k.far k.unit least most (pos raw) is.ranges.unit is.low is.high)
    ∙ pick d (raw == 0) (within k.near k.far d) none
  where
    d : ℤ
    d = pos raw *ℤ k.unit

    plain : (near d n unit : ℤ) → pos 1 ≤ℤ near → near ≤ℤ d → d ≡ pos 0 → ⊥
    plain near d n unit a b e = omega (arith, ints)

    none : (raw == 0) ≡ true → within k.near k.far d ≡ true → ⊥
    none z w =
        let zero : d ≡ pos 0 = ap (λ n. pos n *ℤ k.unit) (eqb-true raw 0 z) ∙ omega (arith, ints) in
        plain k.near d (pos raw) k.unit is.ranges.near (between k.near k.far d w).0 zero

-- as the machine reads it
pub range_read : (k : CameraFields) (raw : ℕ) (unit least most p d : ℤ) (b : Bool) (r : Option ℤ) → IsRangeOf k unit least most → IsWithin (pos 16000001) least → IsWithin (pos 16000001) most → pos 1 ≤ℤ unit → unit ≤ℤ pos 100000 → raw < 65536 → SFits w64 d
    → p ≡ pos raw → b ≡ within (read least) (read most) (read p) → d ≡ pos raw *ℤ read unit → r ≡ then_some b (read d) → r ≡ depth_of k raw
range_read k raw unit least most p d b r is low high u1 u2 small fits ep eb ed er =
    let one : read least ≡ least = omega (arith, ints, low.low, low.high) in
    let two : read most ≡ most = omega (arith, ints, high.low, high.high) in
    let three : read p ≡ pos raw = omega (arith, ints) in
    let four : read unit ≡ unit = omega (arith, ints, u1, u2) in
    let test : b ≡ within least most (pos raw) = eb ∙ rw (one, two, three) refl in
    let depth : read d ≡ pos raw *ℤ unit = to_z-of_z w64 d fits ∙ ed ∙ ap (λ u. pos raw *ℤ u) four in
    er ∙ (λ i. then_some (test i) (depth i)) ∙ depth_is k raw unit least most is

-- a depth that a camera takes is from 1 to its farthest
pub depth_shown : (k : CameraFields) (raw : ℕ) → HasRanges k → IfSome (depth_of k raw) (λ d. (pos 1 ≤ℤ d) × (d ≤ℤ k.far))
depth_shown k raw ranges = by (depth_of k raw) refl
  where
    by : (o : Option ℤ) → depth_of k raw ≡ o → IfSome o (λ d. (pos 1 ≤ℤ d) × (d ≤ℤ k.far))
    by None e = tt
    by (Some d) e = let s = is_shown k raw d ranges e in (s.near, s.far)

-- ---- the range as it is made

less_read : (x : ℤ) → pos 1 ≤ℤ x → x ≤ℤ pos 16000000 → read (read x -ℤ pos 1) ≡ x -ℤ pos 1
less_read x a b =
    let one : read x ≡ x = omega (arith, ints, a, b) in
    let two : read (x -ℤ pos 1) ≡ x -ℤ pos 1 = omega (arith, ints, a, b) in
    rw one two

more_read : (x : ℤ) → pos 0 ≤ℤ x → x ≤ℤ pos 16000000 → read (read x +ℤ pos 1) ≡ x +ℤ pos 1
more_read x a b =
    let one : read x ≡ x = omega (arith, ints, a, b) in
    let two : read (x +ℤ pos 1) ≡ x +ℤ pos 1 = omega (arith, ints, a, b) in
    rw one two

pub near_least : (k : CameraFields) → HasRanges k → pos 0 ≤ℤ read (read k.near -ℤ pos 1)
near_least k r = rw (less_read k.near r.near r.near_high) (plain k.near r.near)
  where
    plain : (x : ℤ) → pos 1 ≤ℤ x → pos 0 ≤ℤ (x -ℤ pos 1)
    plain x a = omega (arith, ints)

far_from : (near far : ℤ) → pos 1 ≤ℤ near → near ≤ℤ far → pos 0 ≤ℤ far
far_from near far a b = omega (arith, ints)

pub far_least : (k : CameraFields) → HasRanges k → pos 0 ≤ℤ read k.far
far_least k r =
    let low = far_from k.near k.far r.near r.far in
    let one : read k.far ≡ k.far = omega (arith, ints, low, r.far_high) in
    rw one low

pub least_made : (a : ℤ) → pos 0 ≤ℤ a → a ≤ℤ pos 16000000 → IsWithin (pos 16000001) (read (read a +ℤ pos 1))
least_made a low high = rw (more_read a low high) (record { low = omega (arith, ints); high = omega (arith, ints) })

pub most_made : (a : ℤ) → pos 0 ≤ℤ a → a ≤ℤ pos 16000000 → IsWithin (pos 16000001) (read a)
most_made a low high =
    let one : read a ≡ a = omega (arith, ints, low, high) in
    rw one (record { low = omega (arith, ints); high = omega (arith, ints) })

pub unit_least : (k : CameraFields) → HasRanges k → (pos 1 ≤ℤ read k.unit) × (read k.unit ≤ℤ pos 100000)
unit_least k r =
    let one : read k.unit ≡ k.unit = omega (arith, ints, r.unit, r.unit_high) in
    rw one (r.unit, r.unit_high)

pub range_made : (k : CameraFields) (a b : ℤ) → HasRanges k → IsFloor (read (read k.near -ℤ pos 1)) (read k.unit) a → IsFloor (read k.far) (read k.unit) b → pos 0 ≤ℤ a → a ≤ℤ pos 16000000 → pos 0 ≤ℤ b → b ≤ℤ pos 16000000 → IsRangeOf k (read k.unit) (read (read a +ℤ pos 1)) (read b)
range_made k a b r near far a0 a1 b0 b1 =
    let far_low = far_from k.near k.far r.near r.far in
    let unit : read k.unit ≡ k.unit = omega (arith, ints, r.unit, r.unit_high) in
    let last : read k.far ≡ k.far = omega (arith, ints, far_low, r.far_high) in
    let most : read b ≡ b = omega (arith, ints, b0, b1) in
    let less : a ≡ read (read a +ℤ pos 1) -ℤ pos 1 = lowered a (read (read a +ℤ pos 1)) (more_read a a0 a1) in
    record {
      ranges = r;
      same_unit = unit;
      low = subst (IsFloor (k.near -ℤ pos 1) k.unit) less (subst (λ u. IsFloor (k.near -ℤ pos 1) u a) unit (subst (λ d. IsFloor d (read k.unit) a) (less_read k.near r.near r.near_high) near));
      high = subst (IsFloor k.far k.unit) (sym most) (subst (λ u. IsFloor k.far u b) unit (subst (λ d. IsFloor d (read k.unit) b) last far));
    }
  where
    lowered : (a x : ℤ) → x ≡ a +ℤ pos 1 → a ≡ x -ℤ pos 1
    lowered a x e = omega (arith, ints)
