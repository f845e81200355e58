-- A coordinate of a ray, raised, by a product with a reciprocal.
use Rattle.std.proofs.Common.{◌≡◌, ℕ, ◌*◌, ◌/◌, ◌≤◌, ◌<◌, ap, refl, sym, subst, ◌∙◌, arith}
use Rattle.std.specs.Prelude.{ℤ, pos, ◌+ℤ◌, ◌-ℤ◌, ◌*ℤ◌, ◌≤ℤ◌, ◌<ℤ◌, unsigned_abs}
use Rattle.std.proofs.lemmas.Int.{ints, to_z-of_z}
use mir.Val.{SFits, to_z}
use mir.Syntax.{w64}
use Rattle.std.proofs.lemmas.Nat.{mul-le}
use Rattle.fixed_geom.specs.Division.{IsFloor}
use Rattle.fixed_geom.specs.Vectors.{IsWithin}
use Rattle.fixed_geom.proofs.Whole.{mul_sum, mul_turn, mul_group, mul_order}
use Rattle.fixed_geom.proofs.Floors.{floor_div_is, floor_is}
use Rattle.fixed_geom.proofs.ProductFloors.{product_below}
use Rattle.fixed_geom.proofs.Machine.{read}
use Rattle.camera.specs.Cameras.{ray_axis}
use Rattle.ray_walk.specs.declared.ray.RayAxis.{RayAxis}
use Rattle.ray_walk.specs.Raising.{reciprocal, ray_raise}

-- the floor of a by f is x; both are multiplied by u, and the quotient is raised
pub raised_floor : (f u a x : ℤ) → pos 1 ≤ℤ u → IsFloor a f x → IsFloor (u *ℤ a +ℤ (f *ℤ u) *ℤ ray_raise) (f *ℤ u) (x +ℤ ray_raise)
raised_floor f u a x u1 i =
    let g = f *ℤ u in
    let low : (u *ℤ (f *ℤ x)) ≤ℤ (u *ℤ a) = mul_order u (f *ℤ x) a (omega (arith, ints)) i.below in
    let high : (u *ℤ (a +ℤ pos 1)) ≤ℤ (u *ℤ (f *ℤ x +ℤ f)) = mul_order u (a +ℤ pos 1) (f *ℤ x +ℤ f) (omega (arith, ints)) (next a (f *ℤ x +ℤ f) i.above) in
    let same : g *ℤ x ≡ u *ℤ (f *ℤ x) = ap (λ t. t *ℤ x) (mul_turn f u) ∙ mul_group u f x in
    let sum = mul_sum g x ray_raise in
    record {
      below = lower (g *ℤ (x +ℤ ray_raise)) (g *ℤ x) (g *ℤ ray_raise) (u *ℤ (f *ℤ x)) (u *ℤ a) sum same low;
      above = upper (g *ℤ (x +ℤ ray_raise)) (g *ℤ x) (g *ℤ ray_raise) (u *ℤ (f *ℤ x)) (u *ℤ a) (u *ℤ (a +ℤ pos 1)) (u *ℤ pos 1) (u *ℤ (f *ℤ x +ℤ f)) (u *ℤ f) g u sum same high (mul_sum u a (pos 1)) (one u) (mul_sum u (f *ℤ x) f) (mul_turn f u) u1;
    }
  where
    next : (a b : ℤ) → a <ℤ b → (a +ℤ pos 1) ≤ℤ b
    next a b h = omega (arith, ints)

    one : (u : ℤ) → u *ℤ pos 1 ≡ u
    one u = omega (arith, ints)

    lower : (gxk gx gk ufx ua : ℤ) → gxk ≡ gx +ℤ gk → gx ≡ ufx → ufx ≤ℤ ua → gxk ≤ℤ (ua +ℤ gk)
    lower gxk gx gk ufx ua a b c = omega (arith, ints)

    upper : (gxk gx gk ufx ua ua1 u1 top uf g u : ℤ) → gxk ≡ gx +ℤ gk → gx ≡ ufx → ua1 ≤ℤ top → ua1 ≡ ua +ℤ u1 → u1 ≡ u → top ≡ ufx +ℤ uf → g ≡ uf → pos 1 ≤ℤ u → (ua +ℤ gk) <ℤ (gxk +ℤ g)
    upper gxk gx gk ufx ua ua1 u1 top uf g u a b c d e h i j = omega (arith, ints)

-- the number n, whose quotient by g is x, raised, where x is within 17 metres
pub record IsNumerator (g x n : ℤ) : Type 0 where
  pub least : pos 0 ≤ℤ n
  pub most : n <ℤ pos 72057594037927936
  pub floor : IsFloor n g (x +ℤ ray_raise)

sized : (g x n : ℤ) → pos 0 ≤ℤ g → g ≤ℤ pos 1073741824 → IsWithin (pos 17000000) x → IsFloor n g (x +ℤ ray_raise) → IsNumerator g x n
sized g x n g0 small w i = record {
  least = lower n (g *ℤ pos 0) (g *ℤ (x +ℤ ray_raise)) (none g) (mul_order g (pos 0) (x +ℤ ray_raise) g0 (omega (arith, ints, w.low))) i.below;
  most = upper n g (g *ℤ (x +ℤ ray_raise)) (g *ℤ pos 34000001) (mul_order g (x +ℤ ray_raise) (pos 34000001) g0 (omega (arith, ints, w.high))) (times g) i.above small;
  floor = i;
}
  where
    none : (g : ℤ) → g *ℤ pos 0 ≡ pos 0
    none g = omega (arith, ints)

    times : (g : ℤ) → g *ℤ pos 34000001 ≡ pos 34000001 *ℤ g
    times g = omega (arith, ints)

    lower : (n g0 gx : ℤ) → g0 ≡ pos 0 → g0 ≤ℤ gx → gx ≤ℤ n → pos 0 ≤ℤ n
    lower n g0 gx a b c = omega (arith, ints)

    upper : (n g gx top : ℤ) → gx ≤ℤ top → top ≡ pos 34000001 *ℤ g → n <ℤ (gx +ℤ g) → g ≤ℤ pos 1073741824 → n <ℤ pos 72057594037927936
    upper n g gx top a b c d = omega (arith, ints)

-- the numerator of a coordinate whose offset is o, as it is computed
pub numerator_is : (f u o z x : ℤ) → pos 1 ≤ℤ u → pos 0 ≤ℤ (f *ℤ u) → (f *ℤ u) ≤ℤ pos 1073741824 → IsWithin (pos 17000000) x → IsFloor (o *ℤ z) f x → IsNumerator (f *ℤ u) x ((o *ℤ u) *ℤ z +ℤ (f *ℤ u) *ℤ ray_raise)
numerator_is f u o z x u1 g0 small w i =
    let turned : u *ℤ (o *ℤ z) ≡ (o *ℤ u) *ℤ z = sym (mul_group u o z) ∙ ap (λ t. t *ℤ z) (mul_turn u o) in
    subst (λ (n : ℤ). IsNumerator (f *ℤ u) x (n +ℤ (f *ℤ u) *ℤ ray_raise)) turned (sized (f *ℤ u) x (u *ℤ (o *ℤ z) +ℤ (f *ℤ u) *ℤ ray_raise) g0 small w (raised_floor f u (o *ℤ z) x u1 i))

-- what a coordinate is raised by, and the product that is raised
pub raise_within : (g : ℤ) → pos 0 ≤ℤ g → g ≤ℤ pos 1073741824 → IsWithin (pos 72057594037927936) (g *ℤ ray_raise)
raise_within g g0 small = record { low = omega (arith, ints); high = omega (arith, ints) }

pub product_within : (g x t : ℤ) → pos 0 ≤ℤ g → g ≤ℤ pos 1073741824 → IsNumerator g x (t +ℤ g *ℤ ray_raise) → IsWithin (pos 72057594037927936) t
product_within g x t g0 small n = plain t (g *ℤ ray_raise) (omega (arith, ints)) (omega (arith, ints)) n.least n.most
  where
    plain : (t r : ℤ) → pos 0 ≤ℤ r → r ≤ℤ pos 72057594037927936 → pos 0 ≤ℤ (t +ℤ r) → (t +ℤ r) <ℤ pos 72057594037927936 → IsWithin (pos 72057594037927936) t
    plain t r a b c d = record { low = omega (arith, ints); high = omega (arith, ints) }

-- the quotient by the reciprocal is the coordinate, raised
pub quotient_is : (g x : ℤ) (n m q : ℕ) → pos 1 ≤ℤ g → g ≤ℤ pos 1073741824 → IsNumerator g x (pos n) → m ≡ reciprocal 77371252455336267181195264 (unsigned_abs g) → q ≡ n * m / 77371252455336267181195264 → pos q ≡ x +ℤ ray_raise
quotient_is g x n m q g1 small i is e =
    let d = unsigned_abs g in
    let same : pos d ≡ g = omega (arith, ints) in
    let most : n < 72057594037927936 = omega (arith, ints, i.most) in
    let floor : IsFloor (pos n) (pos d) (x +ℤ ray_raise) = subst (λ (b : ℤ). IsFloor (pos n) b (x +ℤ ray_raise)) (sym same) i.floor in
    ap pos (e ∙ product_below n d m 77371252455336267181195264 (omega (arith, ints)) (omega arith) is (less n d most (omega (arith, ints)))) ∙ floor_div_is (pos n) (pos d) (x +ℤ ray_raise) (omega (arith, ints)) floor
  where
    less : (n d : ℕ) → n < 72057594037927936 → d ≤ 1073741824 → n * d < 77371252455336267181195264
    less n d a b = chain (n * d) (n * 1073741824) (mul-le n d n 1073741824 (omega arith) b) (omega arith)
      where
        chain : (x y : ℕ) → x ≤ y → y < 77371252455336267181195264 → x < 77371252455336267181195264
        chain x y a b = omega arith

-- ---- an axis, as the machine reads it

-- what the coordinates of an axis are divided by
abbrev pub divisor : RayAxis → ℤ
divisor a = a.focal *ℤ a.unit

pub divisor_least : (a : RayAxis) → pos 1 ≤ℤ divisor a
divisor_least a = omega (arith, ints, a.large)

pub raise_read : (a : RayAxis) → read a.raise ≡ divisor a *ℤ ray_raise
raise_read a = plain (divisor a) a.raise a.large a.small a.raised
  where
    plain : (g r : ℤ) → pos 536870912 ≤ℤ g → g ≤ℤ pos 1073741824 → r ≡ g *ℤ ray_raise → read r ≡ g *ℤ ray_raise
    plain g r low high is = omega (arith, ints)

-- the numerator of the coordinate of pixel u: o is the offset of the pixel, and t a multiple of it
pub numerator_read : (a : RayAxis) (u : ℕ) (z o t : ℤ) → IsWithin (pos 17000000) (ray_axis a.focal a.centre (pos u) z) → SFits w64 z → SFits w64 o → SFits w64 t → o ≡ pos 65536 *ℤ pos u -ℤ read a.centre → t ≡ read o *ℤ read a.unit
    → IsNumerator (divisor a) (ray_axis a.focal a.centre (pos u) z) (read t *ℤ read z +ℤ divisor a *ℤ ray_raise)
numerator_read a u z o t w fz fo ft eo et =
    let way = pos 65536 *ℤ pos u -ℤ a.centre in
    let centre : read a.centre ≡ a.centre = omega (arith, ints, a.centre_least, a.centre_most) in
    let unit : read a.unit ≡ a.unit = omega (arith, ints, a.unit_least, a.unit_most) in
    let offset : read o ≡ way = to_z-of_z w64 o fo ∙ eo ∙ rw centre refl in
    let scaled : read t ≡ way *ℤ a.unit = to_z-of_z w64 t ft ∙ et ∙ rw (offset, unit) refl in
    let product : read t *ℤ read z ≡ (way *ℤ a.unit) *ℤ z = rw (scaled, to_z-of_z w64 z fz) refl in
    subst (λ (n : ℤ). IsNumerator (divisor a) (ray_axis a.focal a.centre (pos u) z) (n +ℤ divisor a *ℤ ray_raise)) (sym product)
    (numerator_is a.focal a.unit way z (ray_axis a.focal a.centre (pos u) z) a.unit_least (omega (arith, ints, divisor_least a)) a.small w (floor_is (way *ℤ z) a.focal a.focal_least))

-- it is n, raised, as n is read
pub sum_read : (a : RayAxis) (n t z : ℤ) → SFits w64 n → n ≡ read t *ℤ read z → read n +ℤ read a.raise ≡ read t *ℤ read z +ℤ divisor a *ℤ ray_raise
sum_read a n t z f e = (λ i. (to_z-of_z w64 n f ∙ e) i +ℤ raise_read a i)

pub few : (m : ℤ) (n : ℕ) → pos n ≡ m → m <ℤ pos 72057594037927936 → n < 72057594037927936
few m n e h = omega (arith, ints)

pub lowered_is : (x : ℤ) (q : ℕ) → IsWithin (pos 17000000) x → pos q ≡ x +ℤ ray_raise → to_z w64 q -ℤ ray_raise ≡ x
lowered_is x q w e = omega (arith, ints)

pub raised_least : (x : ℤ) (q : ℕ) → IsWithin (pos 17000000) x → pos q ≡ x +ℤ ray_raise → pos 0 ≤ℤ to_z w64 q
raised_least x q w e = omega (arith, ints)

pub raised_most : (x : ℤ) (q : ℕ) → IsWithin (pos 17000000) x → pos q ≡ x +ℤ ray_raise → to_z w64 q ≤ℤ pos 34000001
raised_most x q w e = omega (arith, ints)
