-- The first hit of a walk, by the ranges of points that are tried.
use Rattle.std.proofs.Common.{◌≡◌, ℕ, ◌+◌, ◌<◌, ◌≤◌, Bool, true, false, cond, List, [], ◌∷◌, length, min, refl, sym, ap, ◌∙◌, subst, inl, inr, ◌⊎◌, arith}
use Rattle.std.specs.Prelude.{ℤ, pos, ◌≤ℤ◌, Option, Some, None}
use Rattle.std.proofs.lemmas.Int.{ints}
use Rattle.std.proofs.Math.Nat.{le-min}
use Rattle.std.proofs.lemmas.Bool.{cases_lt}
use Rattle.std.proofs.lemmas.List.{get_or_past}
use Rattle.ray_walk.specs.Points.{point_count, point_depth}
use Rattle.ray_ranges.specs.declared.point_range.PointRange.{PointRange}
use Rattle.ray_ranges.specs.Tiles.{HasPoint, no_points, range_at}
use Rattle.raycaster.specs.Tries.{AreAscending, HasNoEnd, HaveAllEnds, IsFirstEnd, is_low}
use Rattle.raycaster.specs.Walk.{Scene, falls, hit_sample, is_hit, point_value, sample as sample_of, sample_at, walk_points}
use Rattle.raycaster.proofs.HitLemmas.{is_hit_at, is_none, least_is, past_is_none, walk_length, walk_value}

-- a test that fails wherever it holds, fails
never_true : (b : Bool) → (b ≡ true → b ≡ false) → b ≡ false
never_true true h = h refl
never_true false h = refl

-- what is past the lesser of two is past one of them
pub past_min : (a b j : ℕ) → min a b ≤ j → (a ≤ j) ⊎ (b ≤ j)
past_min a b j h = by (cases_lt j a) (cases_lt j b)
  where
    by : (j < a) ⊎ (a ≤ j) → (j < b) ⊎ (b ≤ j) → (a ≤ j) ⊎ (b ≤ j)
    by (inr g) m = inl g
    by (inl l) (inr g) = inr g
    by (inl l) (inl m) = absurd (let least = le-min {k = j + 1} {a = a} {b = b} (omega (arith, l)) (omega (arith, m)) in omega (arith, h, least))

-- ---- the ranges of a walk

-- the points of the first n ranges were tried, and no hit ends there
pub record AreTried (w : List (Option ℤ)) (ranges : List PointRange) (n : ℕ) : Type 0 where
  pub none : (a j : ℕ) → a < n → HasPoint (range_at ranges a) (j + 1) → is_hit w j ≡ false

pub none_tried : (w : List (Option ℤ)) (ranges : List PointRange) → AreTried w ranges 0
none_tried w ranges = record { none = λ a j low h. absurd (omega arith) }

pub one_more_tried : (w : List (Option ℤ)) (ranges : List PointRange) (n : ℕ) → AreTried w ranges n → HasNoEnd w (range_at ranges n) → AreTried w ranges (n + 1)
one_more_tried w ranges n t h = record { none = λ a j low at. by a j low at (cases_lt a n) }
  where
    by : (a j : ℕ) → a < n + 1 → HasPoint (range_at ranges a) (j + 1) → (a < n) ⊎ (n ≤ a) → is_hit w j ≡ false
    by a j low at (inl l) = t.none a j l at
    by a j low at (inr g) = (let same : a ≡ n = omega arith in h j (subst (λ i. HasPoint (range_at ranges i) (j + 1)) same at))

-- no point is past the last range
no_range : (ranges : List PointRange) (a j : ℕ) → HasPoint (range_at ranges a) j → a < length ranges
no_range ranges a j at = by (cases_lt a (length ranges))
  where
    by : (a < length ranges) ⊎ (length ranges ≤ a) → a < length ranges
    by (inl l) = l
    by (inr g) =
        let none : HasPoint no_points j = subst (λ r. HasPoint r j) (get_or_past ranges a no_points g) at in
        absurd (omega (arith, none.first_low, none.last_high))

module _ (s : Scene) (u v : ℕ) (ranges : List PointRange) (all : HaveAllEnds (walk_points s u v) ranges) where
  -- the first hit of the walk is the first one that ends in a range, where none ends in the ranges before
  pub first_of_all : (n x : ℕ) → AreAscending ranges → AreTried (walk_points s u v) ranges n → IsFirstEnd s.camera (walk_points s u v) (range_at ranges n) x → x ≡ sample_of s u v
  first_of_all n x order t e = e.value ∙ ap (sample_at s.camera (walk_points s u v)) (sym (least_is (walk_points s u v) e.at e.is before))
    where
      in_range : (j : ℕ) → j < e.at → (a : ℕ) → HasPoint (range_at ranges a) (j + 1) → (a < n) ⊎ (n ≤ a) → (a < n + 1) ⊎ (n + 1 ≤ a) → is_hit (walk_points s u v) j ≡ false
      in_range j low a at (inl l) m = t.none a j l at
      in_range j low a at (inr g) (inl l) = (let same : a ≡ n = omega arith in e.before j low (subst (λ i. HasPoint (range_at ranges i) (j + 1)) same at))
      in_range j low a at (inr g) (inr m) = absurd (omega (arith, low, order n a (e.at + 1) (j + 1) (omega arith) e.point at))

      before : (j : ℕ) → j < e.at → is_hit (walk_points s u v) j ≡ false
      before j low = never_true (is_hit (walk_points s u v) j) (λ is. let i = all j is in in_range j low i.at i.point (cases_lt i.at n) (cases_lt i.at (n + 1)))

  -- where none ends in any range there is none
  pub none_of_all : (n : ℕ) → length ranges ≤ n → AreTried (walk_points s u v) ranges n → 0 ≡ sample_of s u v
  none_of_all n past t = ap (sample_at s.camera (walk_points s u v)) (sym (is_none (walk_points s u v) none))
    where
      none : (j : ℕ) → is_hit (walk_points s u v) j ≡ false
      none j = never_true (is_hit (walk_points s u v) j) (λ is. let i = all j is in let inside = no_range ranges i.at (j + 1) i.point in t.none i.at j (omega (arith, inside, past)) i.point)

-- ---- the points of a range

-- no hit ends at a point of the range that comes before point j
pub record HasNoneBefore (s : Scene) (u v : ℕ) (r : PointRange) (j : ℕ) : Type 0 where
  pub none : (i : ℕ) → i + 1 < j → HasPoint r (i + 1) → is_hit (walk_points s u v) i ≡ false

module _ (s : Scene) (u v : ℕ) (r : PointRange) where
  pub none_before : (j : ℕ) → (j ≤ r.first) ⊎ (j ≤ 1) → HasNoneBefore s u v r j
  none_before j (inl l) = record { none = λ i low at. absurd (omega (arith, low, l, at.first_low)) }
  none_before j (inr l) = record { none = λ i low at. absurd (omega (arith, low, l)) }

  -- where the points of the range or those of the walk end, none is left
  pub none_left : (j : ℕ) → HasNoneBefore s u v r j → (r.last + 1 ≤ j) ⊎ (point_count s.camera ≤ j) → HasNoEnd (walk_points s u v) r
  none_left j b end i at = by (cases_lt (i + 1) j) end
    where
      by : (i + 1 < j) ⊎ (j ≤ i + 1) → (r.last + 1 ≤ j) ⊎ (point_count s.camera ≤ j) → is_hit (walk_points s u v) i ≡ false
      by (inl l) e = b.none i l at
      by (inr g) (inl e) = absurd (omega (arith, g, e, at.last_high))
      by (inr g) (inr e) = past_is_none (walk_points s u v) i (let n = walk_length s u v in omega (arith, n, g, e))

-- ---- a point that is tried

-- a value does not fall to one that is not low
pub not_low : (f g : Option ℤ) → is_low g ≡ false → falls f g ≡ false
not_low None g e = refl
not_low (Some f) None e = refl
not_low (Some f) (Some g) e = grind (arith, ints, e)

-- the sample of a hit from point i to point j, if there is one
abbrev pub sample_between : Scene → (u v i j : ℕ) → Option ℕ
sample_between s u v i j = cond (falls (point_value s u v i) (point_value s u v j)) (Some (hit_sample s.camera (point_depth s.camera i) (point_value s u v i) (point_value s u v j))) None

module _ (s : Scene) (u v : ℕ) (r : PointRange) (i j : ℕ) (follows : j ≡ i + 1) (inside : j < point_count s.camera) (before : HasNoneBefore s u v r j) where
  here : is_hit (walk_points s u v) i ≡ falls (point_value s u v i) (point_value s u v j)
  here = is_hit_at s u v i (subst (λ n. n < point_count s.camera) follows inside) ∙ ap (λ n. falls (point_value s u v i) (point_value s u v n)) (sym follows)

  pub trial_none : (t : Option ℕ) → t ≡ sample_between s u v i j → t ≡ None → HasNoneBefore s u v r (j + 1)
  trial_none t e none = by (falls (point_value s u v i) (point_value s u v j)) refl
    where
      some_none : (y : ℕ) → ◌≡◌ {A = Option ℕ} (Some y) None → HasNoneBefore s u v r (j + 1)
      some_none y e = absurd (cc)

      one_more : is_hit (walk_points s u v) i ≡ false → (n : ℕ) → n + 1 < j + 1 → HasPoint r (n + 1) → (n + 1 < j) ⊎ (j ≤ n + 1) → is_hit (walk_points s u v) n ≡ false
      one_more out n low at (inl l) = before.none n l at
      one_more out n low at (inr g) = (let same : i ≡ n = omega (arith, follows, low, g) in subst (λ n. is_hit (walk_points s u v) n ≡ false) same out)

      by : (b : Bool) → falls (point_value s u v i) (point_value s u v j) ≡ b → HasNoneBefore s u v r (j + 1)
      by true is = some_none (hit_sample s.camera (point_depth s.camera i) (point_value s u v i) (point_value s u v j)) (sym (e ∙ ap (λ b. cond b (Some (hit_sample s.camera (point_depth s.camera i) (point_value s u v i) (point_value s u v j))) None) is) ∙ none)
      by false is = record { none = λ n low at. one_more (here ∙ is) n low at (cases_lt (n + 1) j) }

  pub trial_hit : (t : Option ℕ) (x : ℕ) → t ≡ sample_between s u v i j → t ≡ Some x → HasPoint r j → IsFirstEnd s.camera (walk_points s u v) r x
  trial_hit t x e some at = by (falls (point_value s u v i) (point_value s u v j)) refl
    where
      none_some : ◌≡◌ {A = Option ℕ} None (Some x) → IsFirstEnd s.camera (walk_points s u v) r x
      none_some e = absurd (cc)

      same_some : (y : ℕ) → ◌≡◌ {A = Option ℕ} (Some y) (Some x) → x ≡ y
      same_some y e = cc

      by : (b : Bool) → falls (point_value s u v i) (point_value s u v j) ≡ b → IsFirstEnd s.camera (walk_points s u v) r x
      by false is = none_some (sym (e ∙ ap (λ b. cond b (Some (hit_sample s.camera (point_depth s.camera i) (point_value s u v i) (point_value s u v j))) None) is) ∙ some)
      by true is = record {
        at = i;
        point = subst (HasPoint r) follows at;
        is = here ∙ is;
        before = λ n low point. before.none n (omega (arith, follows, low)) point;
        value = same_some (hit_sample s.camera (point_depth s.camera i) (point_value s u v i) (point_value s u v j)) (sym (e ∙ ap (λ b. cond b (Some (hit_sample s.camera (point_depth s.camera i) (point_value s u v i) (point_value s u v j))) None) is) ∙ some)
            ∙ (λ n. hit_sample s.camera (point_depth s.camera i) (sym (walk_value s u v i (omega (arith, follows, inside))) n) ((ap (point_value s u v) follows ∙ sym (walk_value s u v (i + 1) (subst (λ n. n < point_count s.camera) follows inside))) n));
      }

-- ---- the ends of hits

-- a walk's hit ends at a point with a known value that is at most 0
pub record IsLowEnd (s : Scene) (u v j : ℕ) : Type 0 where
  pub value : ℤ
  pub known : point_value s u v (j + 1) ≡ Some value
  pub low : value ≤ℤ pos 0
  pub inside : j + 1 < point_count s.camera

pub low_end : (s : Scene) (u v j : ℕ) → is_hit (walk_points s u v) j ≡ true → IsLowEnd s u v j
low_end s u v j is = by (cases_lt (j + 1) (point_count s.camera))
  where
    fall : j + 1 < point_count s.camera → (f g : Option ℤ) → point_value s u v (j + 1) ≡ g → falls f g ≡ true → IsLowEnd s u v j
    fall l None g known e = absurd (cc)
    fall l (Some f) None known e = absurd (cc)
    fall l (Some f) (Some g) known e = record { value = g; known = known; low = grind (arith, ints, e); inside = l }

    by : (j + 1 < point_count s.camera) ⊎ (point_count s.camera ≤ j + 1) → IsLowEnd s u v j
    by (inl l) = fall l (point_value s u v j) (point_value s u v (j + 1)) refl (sym (is_hit_at s u v j l) ∙ is)
    by (inr g) = (let e = past_is_none (walk_points s u v) j (let n = walk_length s u v in omega (arith, n, g)) in let z : true ≡ false = sym is ∙ e in absurd (cc))

-- ---- all points in one range

-- a range with all points has the end of each hit
pub one_has_all : (s : Scene) (u v : ℕ) (r : PointRange) → ((j : ℕ) → j + 1 < point_count s.camera → HasPoint r (j + 1)) → HaveAllEnds (walk_points s u v) (r ∷ [])
one_has_all s u v r all j is = (let e = low_end s u v j is in record { at = 0; point = all j e.inside })

pub one_ascending : (r : PointRange) → AreAscending (r ∷ [])
one_ascending r a b i j before first second =
    let inside : b < 1 = no_range (r ∷ []) b j second in
    absurd (omega (arith, before, inside))
