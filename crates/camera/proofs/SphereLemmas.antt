-- The test of the sphere, as the machine computes it in 128 bits.
use Rattle.std.proofs.Common.{◌≡◌, ◌∙◌, Bool, refl, arith}
use Rattle.std.specs.Prelude.{ℤ, pos, ◌+ℤ◌, ◌-ℤ◌, ◌≤ℤ◌, int_le}
use Rattle.std.proofs.lemmas.Int.{ints}
use mir.Val.{SFits}
use mir.Syntax.{w128}
use Rattle.fixed_geom.specs.declared.vector.Vec3.{Vec3}
use Rattle.fixed_geom.specs.Vectors.{IsWithin, AreWithin}
use Rattle.camera.specs.declared.camera.CameraFields.{CameraFields}
use Rattle.camera.specs.Cameras.{HasRanges, square, chunk_margin, is_in_sphere, is_near_sphere, least_size}
use Rattle.camera.proofs.Readings.{read, read128, fits128, fields_read, wide_read}
use Rattle.camera.proofs.VisibilityLemmas.{depth_read}

-- 2^86
abbrev pub squared_bound : ℤ
squared_bound = pos 77371252455336267181195264

-- a depth less the centre's
offset : (z c : ℤ) → IsWithin (pos 4398046511104) z → pos 0 ≤ℤ c → c ≤ℤ pos 17000000 → read z ≡ z → read c ≡ c → read (read z -ℤ read c) ≡ z -ℤ c
offset z c w low high e f = rw (e, f) (plain z c w low high)
  where
    plain : (z c : ℤ) → IsWithin (pos 4398046511104) z → pos 0 ≤ℤ c → c ≤ℤ pos 17000000 → read (z -ℤ c) ≡ z -ℤ c
    plain z c w low high = omega (arith, ints)

pub offset_is : (k : CameraFields) (z : ℤ) → HasRanges k → IsWithin (pos 4398046511104) z → read (read z -ℤ read k.centre) ≡ z -ℤ k.centre
offset_is k z r w = offset z k.centre w r.centre r.centre_high (wide_read z w) (fields_read k r).centre

pub offset_within : (k : CameraFields) (z : ℤ) → HasRanges k → IsWithin (pos 4398046511104) z → IsWithin (pos 8796093022208) (read (read z -ℤ read k.centre))
offset_within k z r w = rw (offset_is k z r w) (plain z k.centre w r.centre r.centre_high)
  where
    plain : (z c : ℤ) → IsWithin (pos 4398046511104) z → pos 0 ≤ℤ c → c ≤ℤ pos 17000000 → IsWithin (pos 8796093022208) (z -ℤ c)
    plain z c w low high = record { low = omega (arith, ints); high = omega (arith, ints) }

-- that offset, as it is read
pub handed_within : (w : ℤ) → IsWithin (pos 8796093022208) w → IsWithin (pos 8796093022208) (read w)
handed_within w b = record { low = omega (arith, ints); high = omega (arith, ints) }

handed : (w z c : ℤ) → IsWithin (pos 8796093022208) w → w ≡ read z -ℤ c → read z ≡ z → read w ≡ z -ℤ c
handed w z c b is e = same w b ∙ is ∙ rw e refl
  where
    same : (w : ℤ) → IsWithin (pos 8796093022208) w → read w ≡ w
    same w b = omega (arith, ints)

-- sums of two and of three squares
pub two_fit : (a b : ℤ) → IsWithin squared_bound a → IsWithin squared_bound b → SFits w128 (read128 a +ℤ read128 b)
two_fit a b v w = fits128 _ (omega (arith, ints))

pub three_fit : (a b c : ℤ) → IsWithin squared_bound a → IsWithin squared_bound b → IsWithin squared_bound c → SFits w128 (read128 (read128 a +ℤ read128 b) +ℤ read128 c)
three_fit a b c v w x = fits128 _ (omega (arith, ints))

three_are : (a b c : ℤ) → IsWithin squared_bound a → IsWithin squared_bound b → IsWithin squared_bound c → read128 (read128 (read128 a +ℤ read128 b) +ℤ read128 c) ≡ a +ℤ b +ℤ c
three_are a b c v w x = omega (arith, ints)

one_is : (a : ℤ) → IsWithin squared_bound a → read128 a ≡ a
one_is a v = omega (arith, ints)

-- the test of three offsets
pub radius_read : (k : CameraFields) (x y z a b c d : ℤ) → HasRanges k → IsWithin (pos 8796093022208) x → IsWithin (pos 8796093022208) y → IsWithin (pos 8796093022208) z
    → a ≡ square (read x) → b ≡ square (read y) → c ≡ square (read z) → d ≡ square (read k.radius)
    → IsWithin squared_bound a → IsWithin squared_bound b → IsWithin squared_bound c → IsWithin squared_bound d
    → int_le (read128 (read128 (read128 a +ℤ read128 b) +ℤ read128 c)) (read128 d) ≡ int_le (square x +ℤ square y +ℤ square z) (square k.radius)
radius_read k x y z a b c d r wx wy wz ea eb ec ed ba bb bc bd =
    let rr = (fields_read k r).radius in
    rw (three_are a b c ba bb bc, one_is d bd, ea, eb, ec, ed, depth_read x wx, depth_read y wy, depth_read z wz, rr) refl

-- the test of a point
pub sphere_read : (r : Bool) (k : CameraFields) (p : Vec3) (w : ℤ) → AreWithin (pos 4398046511104) p → IsWithin (pos 8796093022208) w → w ≡ read p.z -ℤ k.centre
    → r ≡ int_le (square (read p.x) +ℤ square (read p.y) +ℤ square (read w)) (square k.radius) → r ≡ is_in_sphere k p
sphere_read r k p w near bw way e = e ∙ rw (wide_read p.x near.x, wide_read p.y near.y, handed w p.z k.centre bw way (wide_read p.z near.z)) refl

-- the test of a chunk's centre
pub near_sphere_read : (r : Bool) (k : CameraFields) (p : Vec3) (n w a b c : ℤ) → AreWithin (pos 4398046511104) p → n ≡ chunk_margin k → pos 0 ≤ℤ n → n ≤ℤ pos 4900000
    → IsWithin (pos 8796093022208) w → w ≡ read p.z -ℤ k.centre
    → a ≡ least_size (read n) (read p.x) → b ≡ least_size (read n) (read p.y) → c ≡ least_size (read n) (read w)
    → IsWithin (pos 8796093022208) a → IsWithin (pos 8796093022208) b → IsWithin (pos 8796093022208) c
    → r ≡ int_le (square (read a) +ℤ square (read b) +ℤ square (read c)) (square k.radius) → r ≡ is_near_sphere k p
near_sphere_read r k p n w a b c near en low high bw way ea eb ec ba bb bc e =
    let margin : read n ≡ chunk_margin k = small n low high ∙ en in
    e ∙ tested (read a) (read b) (read c) _ _ _ (square k.radius)
    (depth_read a ba ∙ ea ∙ both (read n) (chunk_margin k) (read p.x) p.x margin (wide_read p.x near.x))
    (depth_read b bb ∙ eb ∙ both (read n) (chunk_margin k) (read p.y) p.y margin (wide_read p.y near.y))
    (depth_read c bc ∙ ec ∙ both (read n) (chunk_margin k) (read w) (p.z -ℤ k.centre) margin (handed w p.z k.centre bw way (wide_read p.z near.z)))
  where
    small : (n : ℤ) → pos 0 ≤ℤ n → n ≤ℤ pos 4900000 → read n ≡ n
    small n low high = omega (arith, ints)

    both : (n m x y : ℤ) → n ≡ m → x ≡ y → least_size n x ≡ least_size m y
    both n m x y e f = rw (e, f) refl

    tested : (a b c x y z r : ℤ) → a ≡ x → b ≡ y → c ≡ z → int_le (square a +ℤ square b +ℤ square c) r ≡ int_le (square x +ℤ square y +ℤ square z) r
    tested a b c x y z r e f g = rw (e, f, g) refl
