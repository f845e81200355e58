-- Sums over lists that change at one place.
use Rattle.std.proofs.Common.{◌≡◌, ◌≢◌, ℕ, zero, suc, ◌+◌, ◌<◌, ◌≤◌, List, [], ◌∷◌, ◌++◌, length, map, set, get_or, sym, refl, ap, ◌∙◌, cond, eqb, replicate, arith, inl, inr, ⊎_elim}
use Rattle.std.specs.Prelude.{◌⊎◌, ◌&&◌, ◌*◌, sum_by}
use Rattle.std.proofs.lemmas.List.{get_or-replicate, length-replicate}
use Rattle.std.proofs.lemmas.List.Sums.{sum_by-cons, sum_by-append}
use Rattle.std.proofs.lemmas.List.Folds.{sum_by-replicate}
use mathlib.Core.Option.{some, some-injective, some-ne-none}
use lib.ListN.{get_elem?}
use Rattle.fusion_core.specs.TouchCounts.{times, pairs_at, firsts}

-- an element after one was set: that one, or another one, which is as before
pub at_set : {A : Type 0} (l : List A) (i j : ℕ) (a b : A) → get_elem? (set l i a) j ≡ some b → ((j ≡ i) × (a ≡ b)) ⊎ ((j ≢ i) × (get_elem? l j ≡ some b))
at_set [] i j a b e = absurd (some-ne-none b (sym e))
at_set (x ∷ xs) zero zero a b e = inl (refl, some-injective a b e)
at_set (x ∷ xs) zero (suc j) a b e = inr ((λ h. omega arith), e)
at_set (x ∷ xs) (suc i) zero a b e = inr ((λ h. omega arith), e)
at_set (x ∷ xs) (suc i) (suc j) a b e = ⊎_elim (λ t. inl (ap suc t.0, t.1)) (λ t. let n = t.0 in inr ((λ h. n (omega arith)), t.1)) (at_set xs i j a b e)

-- what stands at a number
pub at_gives : {A : Type 0} (l : List A) (i : ℕ) (v d : A) → get_elem? l i ≡ some v → (i < length l) × (get_or l i d ≡ v)
at_gives [] i v d e = absurd (some-ne-none v (sym e))
at_gives (x ∷ xs) zero v d e = (omega arith, some-injective x v e)
at_gives (x ∷ xs) (suc i) v d e = let o = at_gives xs i v d e in (omega (arith, o.0), o.1)

pub at_map : {A B : Type 0} (f : A → B) (l : List A) (i : ℕ) (a : A) → get_elem? l i ≡ some a → get_elem? (map f l) i ≡ some (f a)
at_map f [] i a e = absurd (some-ne-none a (sym e))
at_map f (x ∷ xs) zero a e = ap (λ z. some (f z)) (some-injective x a e)
at_map f (x ∷ xs) (suc i) a e = at_map f xs i a e

pub at_here : {A : Type 0} (l : List A) (i : ℕ) (a : A) → i < length l → get_elem? (set l i a) i ≡ some a
at_here [] i a h = absurd (omega arith)
at_here (x ∷ xs) zero a h = refl
at_here (x ∷ xs) (suc i) a h = at_here xs i a (omega arith)

pub at_index : {A : Type 0} (l : List A) (i : ℕ) (a : A) → i < length l → a ≡ get_or l i a → get_elem? l i ≡ some a
at_index [] i a h e = absurd (omega arith)
at_index (x ∷ xs) zero a h e = ap some (sym e)
at_index (x ∷ xs) (suc i) a h e = at_index xs i a (omega arith) e

pub at_replicate : {A : Type 0} (n i : ℕ) (a v : A) → get_elem? (replicate n a) i ≡ some v → a ≡ v
at_replicate n i a v e =
    let o = at_gives (replicate n a) i v a e in
    let long : length (replicate n a) ≡ n = length-replicate n a in
    let lt : i < length (replicate n a) = o.0 in
    sym (get_or-replicate n i a a (omega arith)) ∙ o.1

module _ {A : Type 0} (g : A → ℕ) where
  pub sum-set : (l : List A) (j : ℕ) (v w : A) → get_elem? l j ≡ some v → sum_by g (set l j w) + g v ≡ sum_by g l + g w
  sum-set [] j v w e = absurd (some-ne-none v (sym e))
  sum-set (x ∷ xs) zero v w e = omega (arith, ap g (some-injective x v e), sum_by-cons g x xs, sum_by-cons g w xs)
  sum-set (x ∷ xs) (suc j) v w e = omega (arith, sum-set xs j v w e, sum_by-cons g x xs, sum_by-cons g x (set xs j w))

  pub sum-kept : (l : List A) (j : ℕ) (v w : A) → get_elem? l j ≡ some v → g w ≡ g v → sum_by g (set l j w) ≡ sum_by g l
  sum-kept l j v w e same = omega (arith, sum-set l j v w e)

  pub term_le : (l : List A) (j : ℕ) (v : A) → get_elem? l j ≡ some v → g v ≤ sum_by g l
  term_le [] j v e = absurd (some-ne-none v (sym e))
  term_le (x ∷ xs) zero v e = omega (arith, ap g (some-injective x v e), sum_by-cons g x xs)
  term_le (x ∷ xs) (suc j) v e = omega (arith, term_le xs j v e, sum_by-cons g x xs)

  pub terms_le : (l : List A) (j k : ℕ) (v u : A) → k ≢ j → get_elem? l j ≡ some v → get_elem? l k ≡ some u → g v + g u ≤ sum_by g l
  terms_le [] j k v u n e f = absurd (some-ne-none v (sym e))
  terms_le (x ∷ xs) zero zero v u n e f = absurd (n refl)
  terms_le (x ∷ xs) zero (suc k) v u n e f = omega (arith, ap g (some-injective x v e), term_le xs k u f, sum_by-cons g x xs)
  terms_le (x ∷ xs) (suc j) zero v u n e f = omega (arith, ap g (some-injective x u f), term_le xs j v e, sum_by-cons g x xs)
  terms_le (x ∷ xs) (suc j) (suc k) v u n e f = omega (arith, terms_le xs j k v u (λ p. n (ap suc p)) e f, sum_by-cons g x xs)

  pub sum-same : (n a : ℕ) (x : A) → g x ≡ a → sum_by g (replicate n x) ≡ n * a
  sum-same n a x is = sum_by-replicate g n x ∙ ap (λ (y : ℕ). n * y) is

-- ---- what is counted in a list with one more

pub times-cons : (x y : ℕ) (ys : List ℕ) → times x (y ∷ ys) ≡ cond (eqb y x) 1 0 + times x ys
times-cons x y ys = sum_by-cons (λ z. cond (eqb z x) 1 0) y ys

pub pairs-cons : (x y : ℕ) (p : ℕ × ℕ) (ps : List (ℕ × ℕ)) → pairs_at x y (p ∷ ps) ≡ cond (eqb p.0 x && eqb p.1 y) 1 0 + pairs_at x y ps
pairs-cons x y p ps = sum_by-cons (λ (q : ℕ × ℕ). cond (eqb q.0 x && eqb q.1 y) 1 0) p ps

pub firsts-cons : (x : ℕ) (p : ℕ × ℕ) (ps : List (ℕ × ℕ)) → firsts x (p ∷ ps) ≡ cond (eqb p.0 x) 1 0 + firsts x ps
firsts-cons x p ps = sum_by-cons (λ (q : ℕ × ℕ). cond (eqb q.0 x) 1 0) p ps

pub times-append : (x : ℕ) (l m : List ℕ) → times x (l ++ m) ≡ times x l + times x m
times-append x l m = sum_by-append (λ z. cond (eqb z x) 1 0) l m

pub pairs-append : (x y : ℕ) (l m : List (ℕ × ℕ)) → pairs_at x y (l ++ m) ≡ pairs_at x y l + pairs_at x y m
pairs-append x y l m = sum_by-append (λ (q : ℕ × ℕ). cond (eqb q.0 x && eqb q.1 y) 1 0) l m

pub firsts-append : (x : ℕ) (l m : List (ℕ × ℕ)) → firsts x (l ++ m) ≡ firsts x l + firsts x m
firsts-append x l m = sum_by-append (λ (q : ℕ × ℕ). cond (eqb q.0 x) 1 0) l m

-- what was read from a list
pub read_is : (xs : List ℕ) (i x : ℕ) → i < length xs → x ≡ get_or xs i x → x ≡ get_or xs i 0
read_is [] i x lt e = absurd (omega arith)
read_is (y ∷ ys) zero x lt e = e
read_is (y ∷ ys) (suc i) x lt e = read_is ys i x (omega arith) e

pub some_at : {A : Type 0} (l : List A) (i : ℕ) → i < length l → (a : A) × (get_elem? l i ≡ some a)
some_at [] i lt = absurd (omega arith)
some_at (x ∷ xs) zero lt = (x, refl)
some_at (x ∷ xs) (suc i) lt = some_at xs i (omega arith)

-- what was read twice
pub read_twice : {A : Type 0} (l : List A) (i : ℕ) (a b : A) → i < length l → a ≡ get_or l i a → b ≡ get_or l i b → b ≡ a
read_twice [] i a b lt e f = absurd (omega arith)
read_twice (x ∷ xs) zero a b lt e f = f ∙ sym e
read_twice (x ∷ xs) (suc i) a b lt e f = read_twice xs i a b (omega arith) e f
