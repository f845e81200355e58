-- The numbers of the opening test, as the machine reads them in 64 bits.
use Rattle.std.proofs.Common.{◌≡◌, ◌∙◌, ap, arith, refl, rules, Bool, cond, Ok, Err}
use Rattle.std.specs.Prelude.{ℤ, pos, neg_ℤ, ◌+ℤ◌, ◌≤ℤ◌, ◌&&◌, int_le, unsigned_abs, Result, ⊤}
use Rattle.std.specs.Int.{int_max}
use Rattle.std.proofs.lemmas.Int.{ints, clamps}
use mir.Val.{to_z, of_z, SFits}
use mir.Syntax.{w64}
use Rattle.camera.specs.declared.camera.CameraFields.{CameraFields}
use Rattle.camera.specs.declared.camera.BadCamera.{BadCamera}
use Rattle.camera.specs.declared.camera.BadCamera.TheVariants.{Reach, Sphere}
use Rattle.camera.specs.Cameras.{HasRanges, has_reach, fits_sphere, max_depth, reach_axis, reach_x, reach_y}
use Rattle.camera.proofs.Readings.{read, fields_read}

-- a number within 2^60 is read as it is
pub same64 : (z : ℤ) → (neg_ℤ (pos 1152921504606846976)) ≤ℤ z → z ≤ℤ pos 1152921504606846976 → to_z w64 (of_z w64 z) ≡ z
same64 z low high = omega (arith, ints)

greater_high : (l r a m : ℤ) → l ≤ℤ pos 134250496 → (neg_ℤ (pos 134250496)) ≤ℤ r → r ≤ℤ pos 134250496 → a ≡ pos (unsigned_abs r) → m ≡ int_max l a → m ≤ℤ pos 134250496
greater_high l r a m lh rl rh ea em = omega (arith, ints, clamps)

greater_low : (l a m : ℤ) → pos 0 ≤ℤ l → m ≡ int_max l a → pos 0 ≤ℤ m
greater_low l a m ll em = omega (arith, ints, clamps)

size_high : (r a : ℤ) → (neg_ℤ (pos 134250496)) ≤ℤ r → r ≤ℤ pos 134250496 → a ≡ pos (unsigned_abs r) → a ≤ℤ pos 134250496
size_high r a rl rh ea = omega (arith, ints)

size_low : (r a : ℤ) → a ≡ pos (unsigned_abs r) → (neg_ℤ (pos 1152921504606846976)) ≤ℤ a
size_low r a ea = omega (arith, ints)

-- the greater one of the two sides of an image, as it is computed, is bounded
pub half_high : (l r a m : ℤ) → pos 0 ≤ℤ l → l ≤ℤ pos 134250496 → (neg_ℤ (pos 134250496)) ≤ℤ r → r ≤ℤ pos 134250496 → a ≡ pos (unsigned_abs (to_z w64 (of_z w64 r))) → m ≡ int_max (to_z w64 (of_z w64 l)) (to_z w64 (of_z w64 a)) → to_z w64 (of_z w64 m) ≤ℤ pos 134250496
half_high l r a m ll lh rl rh ea em =
    let is_r : to_z w64 (of_z w64 r) ≡ r = same64 r (omega (arith, ints)) (omega (arith, ints)) in
    let size : a ≡ pos (unsigned_abs r) = ea ∙ ap (λ w. pos (unsigned_abs w)) is_r in
    let high : a ≤ℤ pos 134250496 = size_high r a rl rh size in
    let is_a : to_z w64 (of_z w64 a) ≡ a = same64 a (size_low r a size) (omega (arith, ints)) in
    let is_l : to_z w64 (of_z w64 l) ≡ l = same64 l (omega (arith, ints)) (omega (arith, ints)) in
    let is_m : m ≡ int_max l a = em ∙ ap (λ w. int_max w (to_z w64 (of_z w64 a))) is_l ∙ ap (λ w. int_max l w) is_a in
    let top : m ≤ℤ pos 134250496 = greater_high l r a m lh rl rh size is_m in
    let bottom : pos 0 ≤ℤ m = greater_low l a m ll is_m in
    rw (same64 m (omega (arith, ints, bottom)) (omega (arith, ints, top))) top

pub plus_one : (q p : ℤ) → pos 0 ≤ℤ q → q ≤ℤ to_z w64 (of_z w64 p) → pos 0 ≤ℤ p → p ≤ℤ pos 2282258432000000 → to_z w64 (of_z w64 (to_z w64 (of_z w64 q) +ℤ pos 1)) ≡ q +ℤ pos 1
plus_one q p ql qh pl ph =
    let is_p : to_z w64 (of_z w64 p) ≡ p = same64 p (omega (arith, ints)) (omega (arith, ints)) in
    next q (omega (arith, ints)) (omega (arith, ints))
  where
    next : (q : ℤ) → pos 0 ≤ℤ q → q ≤ℤ pos 2282258432000000 → to_z w64 (of_z w64 (to_z w64 (of_z w64 q) +ℤ pos 1)) ≡ q +ℤ pos 1
    next q l h = rw (same64 q (omega (arith, ints)) (omega (arith, ints))) (same64 (q +ℤ pos 1) (omega (arith, ints)) (omega (arith, ints)))

-- the sum of three distances
pub distances_read : (x y z : ℤ) → pos 0 ≤ℤ x → x ≤ℤ pos 17000000 → pos 0 ≤ℤ y → y ≤ℤ pos 17000000 → pos 0 ≤ℤ z → z ≤ℤ pos 17000000 → read (read (read x +ℤ read y) +ℤ read z) ≡ x +ℤ y +ℤ z
distances_read x y z xl xh yl yh zl zh = omega (arith, ints)

-- sums of two and of three squares
sum_fits : (a b : ℤ) → pos 0 ≤ℤ a → a ≤ℤ pos 100000000000000000 → pos 0 ≤ℤ b → b ≤ℤ pos 100000000000000000 → SFits w64 (a +ℤ b)
sum_fits a b al ah bl bh = search (rules, ints)

pub two_fit : (a b : ℤ) → pos 0 ≤ℤ a → a ≤ℤ pos 10000000000000000 → pos 0 ≤ℤ b → b ≤ℤ pos 10000000000000000 → SFits w64 (to_z w64 (of_z w64 a) +ℤ to_z w64 (of_z w64 b))
two_fit a b al ah bl bh =
    let is_a : to_z w64 (of_z w64 a) ≡ a = same64 a (omega (arith, ints)) (omega (arith, ints)) in
    let is_b : to_z w64 (of_z w64 b) ≡ b = same64 b (omega (arith, ints)) (omega (arith, ints)) in
    rw (is_a, is_b) (sum_fits a b al (omega (arith, ints)) bl (omega (arith, ints)))

two_are : (a b : ℤ) → pos 0 ≤ℤ a → a ≤ℤ pos 100000000000000000 → pos 0 ≤ℤ b → b ≤ℤ pos 100000000000000000 → to_z w64 (of_z w64 (to_z w64 (of_z w64 a) +ℤ to_z w64 (of_z w64 b))) ≡ a +ℤ b
two_are a b al ah bl bh =
    rw (same64 a (omega (arith, ints)) (omega (arith, ints)), same64 b (omega (arith, ints)) (omega (arith, ints))) (same64 (a +ℤ b) (omega (arith, ints)) (omega (arith, ints)))

pub three_fit : (a b d : ℤ) → pos 0 ≤ℤ a → a ≤ℤ pos 10000000000000000 → pos 0 ≤ℤ b → b ≤ℤ pos 10000000000000000 → pos 0 ≤ℤ d → d ≤ℤ pos 10000000000000000 → SFits w64 (to_z w64 (of_z w64 (to_z w64 (of_z w64 a) +ℤ to_z w64 (of_z w64 b))) +ℤ to_z w64 (of_z w64 d))
three_fit a b d al ah bl bh dl dh =
    let is_d : to_z w64 (of_z w64 d) ≡ d = same64 d (omega (arith, ints)) (omega (arith, ints)) in
    rw (two_are a b al (omega (arith, ints)) bl (omega (arith, ints)), is_d) (sum_fits (a +ℤ b) d (omega (arith, ints)) (omega (arith, ints)) dl (omega (arith, ints)))

pub three_are : (a b d : ℤ) → pos 0 ≤ℤ a → a ≤ℤ pos 10000000000000000 → pos 0 ≤ℤ b → b ≤ℤ pos 10000000000000000 → pos 0 ≤ℤ d → d ≤ℤ pos 10000000000000000 → to_z w64 (of_z w64 (to_z w64 (of_z w64 (to_z w64 (of_z w64 a) +ℤ to_z w64 (of_z w64 b))) +ℤ to_z w64 (of_z w64 d))) ≡ a +ℤ b +ℤ d
three_are a b d al ah bl bh dl dh =
    let is_d : to_z w64 (of_z w64 d) ≡ d = same64 d (omega (arith, ints)) (omega (arith, ints)) in
    rw (two_are a b al (omega (arith, ints)) bl (omega (arith, ints)), is_d) (same64 (a +ℤ b +ℤ d) (omega (arith, ints)) (omega (arith, ints)))

-- the reach on both axes, as it is computed
pub reaches_are : (k : CameraFields) (d x y : ℤ) → HasRanges k → d ≡ max_depth k → read d ≡ d → x ≡ reach_axis (read d) (read k.fx) (read k.width) (read k.cx) → y ≡ reach_axis (read d) (read k.fy) (read k.height) (read k.cy) → (x ≡ reach_x k) × (y ≡ reach_y k)
reaches_are k d x y r e same ex ey = let is = fields_read k r in (ex ∙ rw (same, e, is.fx, is.width, is.cx) refl, ey ∙ rw (same, e, is.fy, is.height, is.cy) refl)

pub reach_tested_by : (k : CameraFields) (x y : ℤ) (b : Bool) → x ≡ reach_x k → y ≡ reach_y k → read x ≡ x → read y ≡ y → b ≡ (int_le (read x) (pos 17000000) && int_le (read y) (pos 17000000)) → b ≡ has_reach k
reach_tested_by k x y b ex ey sx sy e = e ∙ rw (sx, sy, ex, ey) refl

-- the test with its two answers
abbrev pub answer : (reach sphere : Bool) → Result ⊤ BadCamera
answer reach sphere = cond reach (cond sphere (Ok tt) (Err Sphere)) (Err Reach)

pub opened_by : (k : CameraFields) (reach sphere : Bool) → reach ≡ has_reach k → sphere ≡ fits_sphere k → answer (has_reach k) (fits_sphere k) ≡ answer reach sphere
opened_by k reach sphere r s = rw (← r, ← s) refl
