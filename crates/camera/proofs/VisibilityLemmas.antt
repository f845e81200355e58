-- The visibility test, as the machine computes it.
use Rattle.std.proofs.Common.{◌≡◌, ◌∙◌, ◌≤◌, ◌^◌, Bool, true, false, refl, ap, arith}
use Rattle.std.specs.Prelude.{ℤ, pos, neg_ℤ, ◌+ℤ◌, ◌-ℤ◌, ◌*ℤ◌, ◌&&◌, int_le, unsigned_abs}
use Rattle.std.specs.Int.{int_max, int_min}
use Rattle.std.proofs.lemmas.Int.{ints, clamps}
use mir.Val.{SFits}
use mir.Syntax.{w64}
use Rattle.fixed_geom.specs.Vectors.{IsWithin}
use Rattle.camera.specs.declared.camera.CameraFields.{CameraFields}
use Rattle.camera.specs.Cameras.{HasRanges, max_depth, left, right}
use Rattle.camera.specs.Visibility.{margin, is_at_depth, is_between_sides}
use Rattle.camera.proofs.Readings.{read, read128, fits64, wider}

-- ---- two tests, the second one tried where the first one holds

pub second_tells : (a b x y : Bool) → x ≡ true → x ≡ a → y ≡ b → y ≡ (a && b)
second_tells true b x y t e f = f
second_tells false b x y t e f = absurd cc

pub first_tells : (a b x : Bool) → x ≡ false → x ≡ a → x ≡ (a && b)
first_tells true b x t e = absurd cc
first_tells false b x t e = e

-- ---- numbers that are read as they are

pub small_read : (n : ℤ) → IsWithin (pos 1400000) n → read n ≡ n
small_read n w = omega (arith, ints)

side_read : (z : ℤ) → IsWithin (pos 1073741824) z → read z ≡ z
side_read z w = omega (arith, ints)

pub depth_read : (z : ℤ) → IsWithin (pos 8796093022208) z → read z ≡ z
depth_read z w = omega (arith, ints)

max_depth_read : (z : ℤ) → IsWithin (pos 17000000) z → read z ≡ z
max_depth_read z w = omega (arith, ints)

more_read : (x n : ℤ) → IsWithin (pos 4398046511104) x → IsWithin (pos 1400000) n → read (read x +ℤ read n) ≡ x +ℤ n
more_read x n v w = omega (arith, ints)

less_read : (x n : ℤ) → IsWithin (pos 4398046511104) x → IsWithin (pos 1400000) n → read (read x -ℤ read n) ≡ x -ℤ n
less_read x n v w = omega (arith, ints)

pub less_fits : (x n : ℤ) → IsWithin (pos 4398046511104) x → IsWithin (pos 1400000) n → SFits w64 (read x -ℤ read n)
less_fits x n v w = fits64 _ (record { low = omega (arith, ints); high = omega (arith, ints) })

pub less_within : (x n : ℤ) → IsWithin (pos 4398046511104) x → IsWithin (pos 1400000) n → IsWithin (pos 8796093022208) (read (read x -ℤ read n))
less_within x n v w = record { low = omega (arith, ints); high = omega (arith, ints) }

-- ---- depths

pub depth_test : (k : CameraFields) (z n d : ℤ) → HasRanges k → IsWithin (pos 4398046511104) z → n ≡ margin k → IsWithin (pos 1400000) n → d ≡ max_depth k → IsWithin (pos 17000000) d
    → int_le (pos 1) (read (read z +ℤ read n)) ≡ true → int_le (read (read z -ℤ read n)) (read d) ≡ is_at_depth k z
depth_test k z n d r zb en nb ed db first =
    second_tells (int_le (pos 1) (z +ℤ margin k)) (int_le (z -ℤ margin k) (max_depth k)) _ _ first
    (rw (more_read z n zb nb, en) refl) (rw (less_read z n zb nb, max_depth_read d db, en, ed) refl)

pub side_depth_within : (z n d r : ℤ) → IsWithin (pos 4398046511104) z → IsWithin (pos 1400000) n → IsWithin (pos 17000000) d → r ≡ int_min (read (read z +ℤ read n)) (read d) → IsWithin (pos 8796093022208) (read r)
side_depth_within z n d r zb nb db e = handed r (plain (z +ℤ n) d r (added z n zb nb) db (e ∙ rw (more_read z n zb nb, max_depth_read d db) refl))
  where
    handed : (r : ℤ) → IsWithin (pos 8796093022208) r → IsWithin (pos 8796093022208) (read r)
    handed r w = record { low = omega (arith, ints); high = omega (arith, ints) }

    added : (z n : ℤ) → IsWithin (pos 4398046511104) z → IsWithin (pos 1400000) n → IsWithin (pos 8796093022208) (z +ℤ n)
    added z n v w = record { low = omega (arith, ints); high = omega (arith, ints) }

    plain : (y d r : ℤ) → IsWithin (pos 8796093022208) y → IsWithin (pos 17000000) d → r ≡ int_min y d → IsWithin (pos 8796093022208) r
    plain y d r v w e = record { low = omega (arith, ints, clamps); high = omega (arith, ints, clamps) }

-- ---- sides

right_read : (w c : ℤ) → IsWithin (pos 2048) w → IsWithin (pos 134217728) c → read (read (read (pos 65536 *ℤ read w) -ℤ read c) -ℤ pos 32768) ≡ right w c
right_read w c v u = omega (arith, ints)

pub right_is : (w c r : ℤ) → IsWithin (pos 2048) w → IsWithin (pos 134217728) c → r ≡ int_max (pos 0) (read (read (read (pos 65536 *ℤ read w) -ℤ read c) -ℤ pos 32768)) → r ≡ int_max (pos 0) (right w c)
right_is w c r v u e = e ∙ ap (int_max (pos 0)) (right_read w c v u)

pub right_within : (w c r : ℤ) → IsWithin (pos 2048) w → IsWithin (pos 134217728) c → r ≡ int_max (pos 0) (right w c) → IsWithin (pos 1073741824) r
right_within w c r v u e = record { low = omega (arith, ints, clamps); high = omega (arith, ints, clamps) }

-- the test of the left or the upper side
pub low_side_read : (p q f x l h : ℤ) → IsWithin (pos 1073741824) f → IsWithin (pos 8796093022208) x → IsWithin (pos 1073741824) l → IsWithin (pos 8796093022208) h
    → p ≡ read l *ℤ read h → unsigned_abs p ≤ 2 ^ 73 → q ≡ read f *ℤ read x → unsigned_abs q ≤ 2 ^ 73 → int_le (read128 (pos 0 -ℤ read128 p)) (read128 q) ≡ int_le (neg_ℤ (l *ℤ h)) (f *ℤ x)
low_side_read p q f x l h fb xb lb hb ep pb eq qb = rw (turned p pb, same q qb, ep, eq, side_read f fb, depth_read x xb, side_read l lb, depth_read h hb) refl
  where
    turned : (p : ℤ) → unsigned_abs p ≤ 2 ^ 73 → read128 (pos 0 -ℤ read128 p) ≡ neg_ℤ p
    turned p h = omega (arith, ints)

    same : (q : ℤ) → unsigned_abs q ≤ 2 ^ 73 → read128 q ≡ q
    same q h = omega (arith, ints)

-- the numbers of one axis are bounded
pub record IsBounded (f c w n x h : ℤ) : Type 0 where
  pub focal : IsWithin (pos 1073741824) f
  pub centre : IsWithin (pos 134217728) c
  pub size : IsWithin (pos 2048) w
  pub round : IsWithin (pos 1400000) n
  pub place : IsWithin (pos 4398046511104) x
  pub depth : IsWithin (pos 8796093022208) h

low_at : (r : Bool) (f c w n x h l : ℤ) → IsBounded f c w n x h → l ≡ left (read c) → IsWithin (pos 1073741824) l
    → r ≡ int_le (neg_ℤ (read l *ℤ read h)) (read f *ℤ read (read x +ℤ read n)) → r ≡ int_le (neg_ℤ (left c *ℤ h)) (f *ℤ (x +ℤ n))
low_at r f c w n x h l b el lb e = e ∙ rw (side_read l lb, el, side_read c (more c b.centre), depth_read h b.depth, side_read f b.focal, more_read x n b.place b.round) refl
  where
    more : (c : ℤ) → IsWithin (pos 134217728) c → IsWithin (pos 1073741824) c
    more c w = record { low = omega (arith, ints); high = omega (arith, ints) }

high_at : (r : Bool) (f c w n x h m : ℤ) → IsBounded f c w n x h → m ≡ int_max (pos 0) (right (read w) (read c)) → IsWithin (pos 1073741824) m
    → r ≡ int_le (read f *ℤ read (read x -ℤ read n)) (read m *ℤ read h) → r ≡ int_le (f *ℤ (x -ℤ n)) (int_max (pos 0) (right w c) *ℤ h)
high_at r f c w n x h m b em mb e = e ∙ rw (side_read m mb, em, size_read w b.size, centre_read c b.centre, depth_read h b.depth, side_read f b.focal, less_read x n b.place b.round) refl
  where
    size_read : (w : ℤ) → IsWithin (pos 2048) w → read w ≡ w
    size_read w v = omega (arith, ints)

    centre_read : (c : ℤ) → IsWithin (pos 134217728) c → read c ≡ c
    centre_read c v = omega (arith, ints)

pub left_bound : (l : ℤ) → IsWithin (pos 134250496) l → IsWithin (pos 1073741824) l
left_bound l w = wider (pos 134250496) (pos 1073741824) l (omega (arith, ints)) w

-- both sides
pub both_sides : (r t : Bool) (f c w n x h l m : ℤ) → IsBounded f c w n x h → l ≡ left (read c) → IsWithin (pos 1073741824) l → m ≡ int_max (pos 0) (right (read w) (read c)) → IsWithin (pos 1073741824) m
    → r ≡ int_le (neg_ℤ (read l *ℤ read h)) (read f *ℤ read (read x +ℤ read n)) → t ≡ int_le (read f *ℤ read (read x -ℤ read n)) (read m *ℤ read h) → r ≡ true → t ≡ is_between_sides f c w n x h
both_sides r t f c w n x h l m b el lb em mb er et holds = second_tells _ _ r t holds (low_at r f c w n x h l b el lb er) (high_at t f c w n x h m b em mb et)

pub not_left : (r : Bool) (f c w n x h l : ℤ) → IsBounded f c w n x h → l ≡ left (read c) → IsWithin (pos 1073741824) l
    → r ≡ int_le (neg_ℤ (read l *ℤ read h)) (read f *ℤ read (read x +ℤ read n)) → r ≡ false → r ≡ is_between_sides f c w n x h
not_left r f c w n x h l b el lb er fails = first_tells _ _ r fails (low_at r f c w n x h l b el lb er)

-- the test of one axis, as the machine reads its numbers
pub sides_read : (r : Bool) (f c w n x h n' h' : ℤ) → read f ≡ f → read c ≡ c → read w ≡ w → read n ≡ n' → read x ≡ x → read h ≡ h' → r ≡ is_between_sides (read f) (read c) (read w) (read n) (read x) (read h) → r ≡ is_between_sides f c w n' x h'
sides_read r f c w n x h n' h' ef ec ew en ex eh e = e ∙ rw (ef, ec, ew, en, ex, eh) refl
