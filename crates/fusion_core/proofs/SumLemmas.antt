-- Sums over lists that change at one place, and how often a number stands in a list.
use Rattle.std.proofs.Common.{◌≡◌, ◌≢◌, ℕ, zero, suc, ◌+◌, ◌<◌, ◌≤◌, List, [], ◌∷◌, ◌++◌, length, set, refl, ap, arith, replicate, get_or, take, cond, eqb, sum_by}
use Rattle.std.specs.Prelude.{None, Some, slice_get, unwrap_or, is_some}
use Rattle.std.specs.List.{zip}
use Rattle.std.proofs.lemmas.Bool.{false≢true}
use Rattle.std.proofs.lemmas.List.Sums.{sum_by-append, sum_by-cons}
use mathlib.Core.Logic.{dite}
use native.Mathlib.Decide.{ℕ_discrete, dec_le}
use Rattle.fusion_core.specs.Counts.{count_of}

pub none_no_some : {A : Type 0} {P : Type 0} (x : A) → None ≡ Some x → P
none_no_some x e = absurd (false≢true (ap is_some e))

pub some_same : {A : Type 0} (x y : A) → Some x ≡ Some y → x ≡ y
some_same x y e = ap (λ o. unwrap_or o x) e

pub same_test : (y x : ℕ) → y ≡ x → ◌≡◌ {A = ℕ} (cond (eqb y x) 1 0) 1
same_test y x e = grind (arith, e)

pub no_test : (y x : ℕ) → y ≢ x → ◌≡◌ {A = ℕ} (cond (eqb y x) 1 0) 0
no_test y x n = grind (arith, n)

module _ {A : Type 0} (g : A → ℕ) where
  pub sum_by-set : (l : List A) (j : ℕ) (v w : A) → slice_get l j ≡ Some v → sum_by g (set l j w) + g v ≡ sum_by g l + g w
  sum_by-set [] j v w e = none_no_some v e
  sum_by-set (x ∷ xs) zero v w e = omega (arith, ap g (some_same x v e), sum_by-cons g x xs, sum_by-cons g w xs)
  sum_by-set (x ∷ xs) (suc j) v w e = omega (arith, sum_by-set xs j v w e, sum_by-cons g x xs, sum_by-cons g x (set xs j w))

  pub sum_by_zero : (l : List A) → ((i : ℕ) (u : A) → slice_get l i ≡ Some u → g u ≡ 0) → sum_by g l ≡ 0
  sum_by_zero [] f = refl
  sum_by_zero (x ∷ xs) f = omega (arith, f 0 x refl, sum_by_zero xs (λ i u e. f (suc i) u e), sum_by-cons g x xs)

  pub term_le : (l : List A) (j : ℕ) (v : A) → slice_get l j ≡ Some v → g v ≤ sum_by g l
  term_le [] j v e = none_no_some v e
  term_le (x ∷ xs) zero v e = omega (arith, ap g (some_same x v e), sum_by-cons g x xs)
  term_le (x ∷ xs) (suc j) v e = omega (arith, term_le xs j v e, sum_by-cons g x xs)

  pub terms_le : (l : List A) (j k : ℕ) (v u : A) → k ≢ j → slice_get l j ≡ Some v → slice_get l k ≡ Some u → g v + g u ≤ sum_by g l
  terms_le [] j k v u n e f = none_no_some v e
  terms_le (x ∷ xs) zero zero v u n e f = absurd (n refl)
  terms_le (x ∷ xs) zero (suc k) v u n e f = omega (arith, ap g (some_same x v e), term_le xs k u f, sum_by-cons g x xs)
  terms_le (x ∷ xs) (suc j) zero v u n e f = omega (arith, ap g (some_same x u f), term_le xs j v e, sum_by-cons g x xs)
  terms_le (x ∷ xs) (suc j) (suc k) v u n e f = omega (arith, terms_le xs j k v u (λ p. n (ap suc p)) e f, sum_by-cons g x xs)

  pub replicate_zero : (n : ℕ) (a : A) → g a ≡ 0 → sum_by g (replicate n a) ≡ 0
  replicate_zero zero a e = refl
  replicate_zero (suc n) a e = omega (arith, e, replicate_zero n a e, sum_by-cons g a (replicate n a))

  pub item_le : (l : List A) (j : ℕ) (d : A) → j < length l → g (get_or l j d) ≤ sum_by g l
  item_le [] j d h = absurd (omega arith)
  item_le (x ∷ xs) zero d h = omega (arith, sum_by-cons g x xs)
  item_le (x ∷ xs) (suc j) d h = omega (arith, item_le xs j d (omega arith), sum_by-cons g x xs)

  pub items_le : (l : List A) (j k : ℕ) (d : A) → j < length l → k < length l → j ≢ k → g (get_or l j d) + g (get_or l k d) ≤ sum_by g l
  items_le [] j k d h i n = absurd (omega arith)
  items_le (x ∷ xs) zero zero d h i n = absurd (n refl)
  items_le (x ∷ xs) zero (suc k) d h i n = omega (arith, item_le xs k d (omega arith), sum_by-cons g x xs)
  items_le (x ∷ xs) (suc j) zero d h i n = omega (arith, item_le xs j d (omega arith), sum_by-cons g x xs)
  items_le (x ∷ xs) (suc j) (suc k) d h i n = omega (arith, items_le xs j k d (omega arith) (omega arith) (λ p. n (ap suc p)), sum_by-cons g x xs)

  -- a list with a sum has a term
  pub some_item : (l : List A) (d : A) → 0 < sum_by g l → (j : ℕ) × (j < length l) × (0 < g (get_or l j d))
  some_item [] d h = absurd (omega arith)
  some_item (x ∷ xs) d h = dite (dec_le 1 (g x)) (λ here. (0, omega arith, omega arith))
      (λ no. let c = sum_by-cons g x xs in let r = some_item xs d (omega arith) in (suc r.0, (let q = r.1 in omega arith), r.2))

  pub none_item : (l : List A) (d : A) → ((j : ℕ) → j < length l → g (get_or l j d) ≡ 0) → sum_by g l ≡ 0
  none_item [] d f = refl
  none_item (x ∷ xs) d f = omega (arith, f 0 (omega arith), none_item xs d (λ j h. f (suc j) (omega arith)), sum_by-cons g x xs)

-- ---- sums over two lists side by side

module _ {A B : Type 0} (g : A × B → ℕ) where
  pub zip_set : (xs : List A) (ys : List B) (j : ℕ) (a : A) (b v : B) → j < length xs → length ys ≡ length xs
      → sum_by g (zip xs (set ys j v)) + g (get_or xs j a, get_or ys j b) ≡ sum_by g (zip xs ys) + g (get_or xs j a, v)
  zip_set [] ys j a b v lt e = absurd (omega arith)
  zip_set (x ∷ xs) [] j a b v lt e = absurd (omega arith)
  zip_set (x ∷ xs) (y ∷ ys) zero a b v lt e = omega (arith, sum_by-cons g (x, y) (zip xs ys), sum_by-cons g (x, v) (zip xs ys))
  zip_set (x ∷ xs) (y ∷ ys) (suc j) a b v lt e =
      omega (arith, zip_set xs ys j a b v (omega arith) (omega arith), sum_by-cons g (x, y) (zip xs ys), sum_by-cons g (x, y) (zip xs (set ys j v)))

  pub zip_term_le : (xs : List A) (ys : List B) (j : ℕ) (a : A) (b : B) → j < length xs → length ys ≡ length xs → g (get_or xs j a, get_or ys j b) ≤ sum_by g (zip xs ys)
  zip_term_le [] ys j a b lt e = absurd (omega arith)
  zip_term_le (x ∷ xs) [] j a b lt e = absurd (omega arith)
  zip_term_le (x ∷ xs) (y ∷ ys) zero a b lt e = omega (arith, sum_by-cons g (x, y) (zip xs ys))
  zip_term_le (x ∷ xs) (y ∷ ys) (suc j) a b lt e = omega (arith, zip_term_le xs ys j a b (omega arith) (omega arith), sum_by-cons g (x, y) (zip xs ys))

  pub zip_none : (xs : List A) (n : ℕ) (b : B) → ((x : A) → g (x, b) ≡ 0) → sum_by g (zip xs (replicate n b)) ≡ 0
  zip_none [] n b f = refl
  zip_none (x ∷ xs) zero b f = refl
  zip_none (x ∷ xs) (suc n) b f = omega (arith, f x, zip_none xs n b f, sum_by-cons g (x, b) (zip xs (replicate n b)))

-- terms of which no two are there at once add up to at most one
pub one_at_most : {A : Type 0} (g : A → ℕ) (l : List A) → ((i : ℕ) (u : A) → slice_get l i ≡ Some u → g u ≤ 1)
    → ((i k : ℕ) (u v : A) → i ≢ k → slice_get l i ≡ Some u → slice_get l k ≡ Some v → g u + g v ≤ 1) → sum_by g l ≤ 1
one_at_most g [] one two = omega arith
one_at_most g (x ∷ xs) one two = let c = sum_by-cons g x xs in dite (dec_le 1 (g x))
    (λ here. let none = sum_by_zero g xs (λ i u e. let t = two 0 (suc i) x u (λ z. absurd (omega arith)) refl e in omega arith) in let o = one 0 x refl in omega arith)
    (λ no. let h = one_at_most g xs (λ i u e. one (suc i) u e) (λ i k u v ne e f. two (suc i) (suc k) u v (λ z. ne (omega arith)) e f) in omega arith)

-- ---- how often a number stands in a list

pub count_of-cons : (x y : ℕ) (l : List ℕ) → count_of x (y ∷ l) ≡ cond (eqb y x) 1 0 + count_of x l
count_of-cons x y l = sum_by-cons (λ z. cond (eqb z x) 1 0) y l

pub count_of-append : (x : ℕ) (l m : List ℕ) → count_of x (l ++ m) ≡ count_of x l + count_of x m
count_of-append x l m = sum_by-append (λ z. cond (eqb z x) 1 0) l m

pub count_of-take-le : (x n : ℕ) (l : List ℕ) → count_of x (take n l) ≤ count_of x l
count_of-take-le x zero l = omega arith
count_of-take-le x (suc n) [] = omega arith
count_of-take-le x (suc n) (y ∷ ys) = omega (arith, count_of-take-le x n ys, count_of-cons x y ys, count_of-cons x y (take n ys))

-- a list of one number has no other
pub one_only : (x y : ℕ) → 0 < count_of x (y ∷ []) → y ≡ x
one_only x y h = dite (ℕ_discrete y x) (λ e. e) (λ n. absurd (let z = no_test y x n in omega arith))
