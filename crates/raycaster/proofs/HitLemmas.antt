-- The hit of a walk.
use Rattle.std.proofs.Common.{◌≡◌, ℕ, zero, suc, ◌+◌, ◌<◌, ◌≤◌, Bool, true, false, cond, List, length, refl, sym, ap, ◌∙◌, subst, inl, inr, ◌⊎◌, arith}
use Rattle.std.specs.Prelude.{ℤ, Option, Some, None, IsTrue}
use Rattle.std.specs.List.{find, range_with_len}
use Rattle.std.proofs.lemmas.Bool.{cases_lt}
use Rattle.std.proofs.lemmas.List.{get_or_past}
use Rattle.std.proofs.lemmas.List.FromFn.{length-map-range_with_len, get_or-map-range_with_len}
use Rattle.ray_walk.specs.Points.{point_count}
use Rattle.raycaster.specs.Walk.{Scene, falls, hit, is_hit, point_value, value_at, walk_points}

-- ---- the first number that passes a test

module _ (p : ℕ → Bool) where
  find_none : (a n : ℕ) → ((i : ℕ) → a ≤ i → i < a + n → p i ≡ false) → find p (range_with_len a n) ≡ None
  find_none a zero h = refl
  find_none a (suc n) h =
      ap (λ b. cond b (Some a) (find p (range_with_len (a + 1) n))) (h a (omega arith) (omega arith))
      ∙ find_none (a + 1) n (λ i low high. h i (omega arith) (omega arith))

  find_some : (a n j : ℕ) → a ≤ j → j < a + n → p j ≡ true → ((i : ℕ) → a ≤ i → i < j → p i ≡ false) → find p (range_with_len a n) ≡ Some j
  find_some a zero j low high is before = absurd (omega arith)
  find_some a (suc n) j low high is before = by (λ l. find_some (a + 1) n j (omega arith) (omega arith) is (λ i from to. before i (omega arith) to)) (cases_lt a j)
    where
      by : (a < j → find p (range_with_len (a + 1) n) ≡ Some j) → (a < j) ⊎ (j ≤ a) → find p (range_with_len a (suc n)) ≡ Some j
      by next (inl l) = ap (λ b. cond b (Some a) (find p (range_with_len (a + 1) n))) (before a (omega arith) l) ∙ next l
      by next (inr g) =
          let same : j ≡ a = omega arith in
          ap (λ b. cond b (Some a) (find p (range_with_len (a + 1) n))) (subst (λ i. p i ≡ true) same is) ∙ ap Some (sym same)

  -- what is found
  pub record IsFound (a n j : ℕ) : Type 0 where
    pub low : a ≤ j
    pub high : j < a + n
    pub is : p j ≡ true
    pub before : (i : ℕ) → a ≤ i → i < j → p i ≡ false

  found : (a n j : ℕ) → find p (range_with_len a n) ≡ Some j → IsFound a n j
  found a zero j e = absurd (cc)
  found a (suc n) j e = by (λ d. found (a + 1) n j d) (p a) refl e
    where
      first : (i : ℕ) → p a ≡ false → a ≤ i → i < j → IsFound (a + 1) n j → (a < i) ⊎ (i ≤ a) → p i ≡ false
      first i is from to r (inl l) = r.before i (omega arith) to
      first i is from to r (inr g) = (let same : a ≡ i = omega arith in subst (λ k. p k ≡ false) same is)

      by : (find p (range_with_len (a + 1) n) ≡ Some j → IsFound (a + 1) n j) → (b : Bool) → p a ≡ b → cond b (Some a) (find p (range_with_len (a + 1) n)) ≡ Some j → IsFound a (suc n) j
      by next true is e =
          let same : a ≡ j = cc in
          record { low = omega arith; high = omega arith; is = subst (λ i. p i ≡ true) same is; before = λ i from to. absurd (omega arith) }
      by next false is e =
          let r = next e in
          record { low = omega (arith, r.low); high = omega (arith, r.high); is = r.is; before = λ i from to. first i is from to r (cases_lt a i) }

  found_none : (a n : ℕ) → find p (range_with_len a n) ≡ None → (i : ℕ) → a ≤ i → i < a + n → p i ≡ false
  found_none a zero e i low high = absurd (omega arith)
  found_none a (suc n) e i low high = by (λ d l. found_none (a + 1) n d i (omega arith) (omega arith)) (p a) refl e (cases_lt a i)
    where
      by : (find p (range_with_len (a + 1) n) ≡ None → a < i → p i ≡ false) → (b : Bool) → p a ≡ b → cond b (Some a) (find p (range_with_len (a + 1) n)) ≡ None → (a < i) ⊎ (i ≤ a) → p i ≡ false
      by next true is e h = absurd (cc)
      by next false is e (inl l) = next e l
      by next false is e (inr g) = (let same : a ≡ i = omega arith in subst (λ k. p k ≡ false) same is)

-- ---- hits

falls_none : (f : Option ℤ) → falls f None ≡ false
falls_none None = refl
falls_none (Some f) = refl

-- there is no hit at the last point or past it
pub past_is_none : (w : List (Option ℤ)) (j : ℕ) → length w ≤ j + 1 → is_hit w j ≡ false
past_is_none w j h = ap (falls (value_at w j)) (get_or_past w (j + 1) None h) ∙ falls_none (value_at w j)

hit_inside : (w : List (Option ℤ)) (j : ℕ) → is_hit w j ≡ true → j < length w
hit_inside w j is = by (cases_lt (j + 1) (length w))
  where
    by : (j + 1 < length w) ⊎ (length w ≤ j + 1) → j < length w
    by (inl l) = omega arith
    by (inr g) = (let e = past_is_none w j g in let z : true ≡ false = sym is ∙ e in absurd (cc))

pub is_least : (w : List (Option ℤ)) (j : ℕ) → (hit w ≡ Some j) → IsTrue (is_hit w j) × ((i : ℕ) → i < j → is_hit w i ≡ false)
unfolding hit
is_least w j e = let r = found (is_hit w) 0 (length w) j e in (r.is, λ i low. r.before i (omega arith) low)

pub least_is : (w : List (Option ℤ)) (j : ℕ) → is_hit w j ≡ true → ((i : ℕ) → i < j → is_hit w i ≡ false) → hit w ≡ Some j
unfolding hit
least_is w j is before = let l = hit_inside w j is in find_some (is_hit w) 0 (length w) j (omega arith) (omega arith) is (λ i from to. before i to)

pub none_is : (w : List (Option ℤ)) → hit w ≡ None → (i : ℕ) → is_hit w i ≡ false
unfolding hit
none_is w e i = by (cases_lt i (length w))
  where
    by : (i < length w) ⊎ (length w ≤ i) → is_hit w i ≡ false
    by (inl l) = found_none (is_hit w) 0 (length w) e i (omega arith) (omega arith)
    by (inr g) = past_is_none w i (omega arith)

pub is_none : (w : List (Option ℤ)) → ((i : ℕ) → is_hit w i ≡ false) → hit w ≡ None
unfolding hit
is_none w h = find_none (is_hit w) 0 (length w) (λ i from to. h i)

-- ---- the walk of a pixel

pub walk_length : (s : Scene) (u v : ℕ) → length (walk_points s u v) ≡ point_count s.camera
unfolding walk_points
walk_length s u v = length-map-range_with_len (point_value s u v) 0 (point_count s.camera)

pub walk_value : (s : Scene) (u v j : ℕ) → j < point_count s.camera → value_at (walk_points s u v) j ≡ point_value s u v j
unfolding walk_points
walk_value s u v j h = get_or-map-range_with_len (point_value s u v) 0 (point_count s.camera) j j None h (omega arith)

-- whether there is a hit at point j, by the values there and at the next point
pub is_hit_at : (s : Scene) (u v j : ℕ) → j + 1 < point_count s.camera → is_hit (walk_points s u v) j ≡ falls (point_value s u v j) (point_value s u v (j + 1))
is_hit_at s u v j h = λ i. falls (walk_value s u v j (omega arith) i) (walk_value s u v (j + 1) h i)
