-- The low voxels of a block and of its parts.
use Rattle.std.proofs.Common.{◌≡◌, ℕ, zero, suc, ◌+◌, ◌*◌, ◌/◌, ◌%◌, ◌<◌, ◌≤◌, List, [], ◌∷◌, length, Bool, true, false, ◌||◌, refl, sym, ap, subst, ◌∙◌, arith}
use Rattle.std.specs.Prelude.{Some, None, IsTrue, ◌↔◌, slice_get}
use Rattle.std.proofs.lemmas.Option.{slice_get_within}
use Rattle.voxel_block.specs.declared.voxel.Voxel.{Voxel}
use Rattle.voxel_block.specs.Parts.{part_of, HasLow, IsLow, IsOneOfFour, IsCubeLow}

-- ---- one of four

or_left : (a b : Bool) → IsTrue a → IsTrue (a || b)
or_left true b e = refl
or_left false b e = absurd (cc)

or_right : (a b : Bool) → IsTrue b → IsTrue (a || b)
or_right true b e = refl
or_right false b e = e

module _ (P : ℕ → Type 0) (step first : ℕ) where
  one_of : (a b c d : Bool) → (IsTrue a → P (first + step * 0)) → (IsTrue b → P (first + step * 1)) → (IsTrue c → P (first + step * 2)) → (IsTrue d → P (first + step * 3))
      → IsTrue (a || (b || (c || d))) → IsOneOfFour P step first
  one_of true b c d p q r s e = record { nth = 0; below = omega arith; holds = p refl }
  one_of false true c d p q r s e = record { nth = 1; below = omega arith; holds = q refl }
  one_of false false true d p q r s e = record { nth = 2; below = omega arith; holds = r refl }
  one_of false false false d p q r s e = record { nth = 3; below = omega arith; holds = s e }

  some_true : (a b c d : Bool) (k : ℕ) → (P (first + step * 0) → IsTrue a) → (P (first + step * 1) → IsTrue b) → (P (first + step * 2) → IsTrue c) → (P (first + step * 3) → IsTrue d)
      → k < 4 → P (first + step * k) → IsTrue (a || (b || (c || d)))
  some_true a b c d zero p q r s below is = or_left a (b || (c || d)) (p is)
  some_true a b c d (suc zero) p q r s below is = or_right a (b || (c || d)) (or_left b (c || d) (q is))
  some_true a b c d (suc (suc zero)) p q r s below is = or_right a (b || (c || d)) (or_right b (c || d) (or_left c d (r is)))
  some_true a b c d (suc (suc (suc zero))) p q r s below is = or_right a (b || (c || d)) (or_right b (c || d) (or_right c d (s is)))
  some_true a b c d (suc (suc (suc (suc k)))) p q r s below is = absurd (omega arith)

  -- the answer of `any` to four questions
  pub any_of_four : (a b c d e : Bool) → (IsTrue a ↔ P first) → (IsTrue b ↔ P (first + step * 1)) → (IsTrue c ↔ P (first + step * 2)) → (IsTrue d ↔ P (first + step * 3))
      → e ≡ (a || (b || (c || d))) → IsTrue e ↔ IsOneOfFour P step first
  any_of_four a b c d e p q r s is =
      let start : first + step * 0 ≡ first = omega arith in (
        (λ t. one_of a b c d (λ u. subst P (sym start) (p.0 u)) q.0 r.0 s.0 (sym is ∙ t)),
        (λ o. is ∙ some_true a b c d o.nth (λ u. p.1 (subst P start u)) q.1 r.1 s.1 o.below o.holds),
      )

-- ---- a part and its 4 by 4 by 4 voxels

-- the index of a part's voxel, from the part's halves on the axes and the voxel's coordinates in the part
abbrev nth_of : (a b c x y z : ℕ) → ℕ
nth_of a b c x y z = 4 * a + 32 * b + 256 * c + 64 * z + 8 * y + 1 * x

part_of-nth_of : (a b c x y z : ℕ) → a < 2 → b < 2 → c < 2 → x < 4 → y < 4 → z < 4 → part_of (nth_of a b c x y z) ≡ a + 2 * b + 4 * c
part_of-nth_of a b c x y z p q r s t u =
    let i = nth_of a b c x y z in
    let on_x : i % 8 ≡ 4 * a + x = omega arith in
    let on_y : i / 8 % 8 ≡ 4 * b + y = omega arith in
    let on_z : i / 64 ≡ 4 * c + z = omega arith in
    let half_x : i % 8 / 4 ≡ a = omega arith in
    let half_y : i / 8 % 8 / 4 ≡ b = omega arith in
    let half_z : i / 64 / 4 ≡ c = omega arith in
    omega arith

nth_of-part_of : (a b c i : ℕ) → a < 2 → b < 2 → c < 2 → part_of i ≡ a + 2 * b + 4 * c → nth_of a b c (i % 4) (i / 8 % 4) (i / 64 % 4) ≡ i
nth_of-part_of a b c i p q r is =
    let half_x : i % 8 / 4 ≡ a = omega arith in
    let half_y : i / 8 % 8 / 4 ≡ b = omega arith in
    let half_z : i / 64 / 4 ≡ c = omega arith in
    omega arith

-- a part has a low voxel where one of its 4 by 4 by 4 is low
part_cube : (vs : List Voxel) (a b c : ℕ) → a < 2 → b < 2 → c < 2 → IsCubeLow vs (4 * a + 32 * b + 256 * c) ↔ HasLow vs (a + 2 * b + 4 * c)
part_cube vs a b c p q r = (
  (λ cube.
      let layer = cube.holds in
      let row = layer.holds in
      record { index = nth_of a b c row.nth layer.nth cube.nth; inside = part_of-nth_of a b c row.nth layer.nth cube.nth p q r row.below layer.below cube.below; low = row.holds }),
  (λ has.
      let i = has.index in
      let P : ℕ → Type 0 = IsLow vs in
      let low = subst P (sym (nth_of-part_of a b c i p q r has.inside)) has.low in
      record {
        nth = i / 64 % 4;
        below = omega arith;
        holds = record { nth = i / 8 % 4; below = omega arith; holds = record { nth = i % 4; below = omega arith; holds = low } };
      }),
)

-- ---- the eight answers

some_is : (x y : Bool) → Some x ≡ Some y → x ≡ y
some_is x y e = cc

answered : (vs : List Voxel) (p : ℕ) (b : Bool) → IsTrue b ↔ HasLow vs p → (Some b ≡ Some true) ↔ HasLow vs p
answered vs p b h = ((λ e. h.0 (some_is b true e)), (λ l. ap Some (h.1 l)))

-- no voxel lies past the eighth part
no_part : (vs : List Voxel) (p : ℕ) → length vs ≡ 512 → 8 ≤ p → ¬ (HasLow vs p)
no_part vs p long past has =
    let within = slice_get_within vs has.index has.low.voxel has.low.read in
    let is = has.inside in
    let i = has.index in
    let half_x : i % 8 / 4 < 2 = omega arith in
    let half_y : i / 8 % 8 / 4 < 2 = omega arith in
    let half_z : i / 64 / 4 < 2 = omega arith in
    absurd (omega arith)

module _ (vs : List Voxel) where
  parts : (a b c d e f g h : Bool) (p : ℕ) → length vs ≡ 512 → IsTrue a ↔ HasLow vs 0 → IsTrue b ↔ HasLow vs 1 → IsTrue c ↔ HasLow vs 2 → IsTrue d ↔ HasLow vs 3 → IsTrue e ↔ HasLow vs 4 → IsTrue f ↔ HasLow vs 5 → IsTrue g ↔ HasLow vs 6 → IsTrue h ↔ HasLow vs 7
      → (slice_get (a ∷ b ∷ c ∷ d ∷ e ∷ f ∷ g ∷ h ∷ []) p ≡ Some true) ↔ HasLow vs p
  parts a b c d e f g h zero long i j k l m n o p = answered vs 0 a i
  parts a b c d e f g h (suc zero) long i j k l m n o p = answered vs 1 b j
  parts a b c d e f g h (suc (suc zero)) long i j k l m n o p = answered vs 2 c k
  parts a b c d e f g h (suc (suc (suc zero))) long i j k l m n o p = answered vs 3 d l
  parts a b c d e f g h (suc (suc (suc (suc zero)))) long i j k l m n o p = answered vs 4 e m
  parts a b c d e f g h (suc (suc (suc (suc (suc zero))))) long i j k l m n o p = answered vs 5 f n
  parts a b c d e f g h (suc (suc (suc (suc (suc (suc zero)))))) long i j k l m n o p = answered vs 6 g o
  parts a b c d e f g h (suc (suc (suc (suc (suc (suc (suc zero))))))) long i j k l m n o p = answered vs 7 h p
  parts a b c d e f g h (suc (suc (suc (suc (suc (suc (suc (suc q)))))))) long i j k l m n o p =
      ((λ (e : ◌≡◌ None (Some true)). absurd (cc)), (λ has. absurd (no_part vs (suc (suc (suc (suc (suc (suc (suc (suc q)))))))) long (omega arith) has)))

  pub parts_low : (a b c d e f g h : Bool) (p : ℕ) → length vs ≡ 512 → IsTrue a ↔ IsCubeLow vs 0 → IsTrue b ↔ IsCubeLow vs 4 → IsTrue c ↔ IsCubeLow vs 32 → IsTrue d ↔ IsCubeLow vs 36 → IsTrue e ↔ IsCubeLow vs 256 → IsTrue f ↔ IsCubeLow vs 260
      → IsTrue g ↔ IsCubeLow vs 288 → IsTrue h ↔ IsCubeLow vs 292 → (slice_get (a ∷ b ∷ c ∷ d ∷ e ∷ f ∷ g ∷ h ∷ []) p ≡ Some true) ↔ HasLow vs p
  parts_low a b c d e f g h p long i j k l m n o q =
      let s = part_cube vs 0 0 0 (omega arith) (omega arith) (omega arith) in
      let t = part_cube vs 1 0 0 (omega arith) (omega arith) (omega arith) in
      let u = part_cube vs 0 1 0 (omega arith) (omega arith) (omega arith) in
      let v = part_cube vs 1 1 0 (omega arith) (omega arith) (omega arith) in
      let w = part_cube vs 0 0 1 (omega arith) (omega arith) (omega arith) in
      let x = part_cube vs 1 0 1 (omega arith) (omega arith) (omega arith) in
      let y = part_cube vs 0 1 1 (omega arith) (omega arith) (omega arith) in
      let z = part_cube vs 1 1 1 (omega arith) (omega arith) (omega arith) in
      parts a b c d e f g h p long
      ((λ r. s.0 (i.0 r)), (λ r. i.1 (s.1 r)))
      ((λ r. t.0 (j.0 r)), (λ r. j.1 (t.1 r)))
      ((λ r. u.0 (k.0 r)), (λ r. k.1 (u.1 r)))
      ((λ r. v.0 (l.0 r)), (λ r. l.1 (v.1 r)))
      ((λ r. w.0 (m.0 r)), (λ r. m.1 (w.1 r)))
      ((λ r. x.0 (n.0 r)), (λ r. n.1 (x.1 r)))
      ((λ r. y.0 (o.0 r)), (λ r. o.1 (y.1 r)))
      ((λ r. z.0 (q.0 r)), (λ r. q.1 (z.1 r)))
