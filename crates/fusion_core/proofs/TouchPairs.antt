-- The touched list, and other lists of pairs.
use Rattle.std.proofs.Common.{◌≡◌, ◌≢◌, ℕ, zero, suc, ◌+◌, ◌<◌, eqb, Bool, true, false, cond, ◌&&◌, ◌||◌, List, [], ◌∷◌, ◌++◌, refl, subst, arith}
use Rattle.std.proofs.lemmas.Bool.{eqb-true, eq-eqb, false≢true}
use Rattle.fusion_core.specs.TouchCounts.{pairs_at, has_first, times}
use Rattle.fusion_core.specs.TouchSteps.{touched_after}
use Rattle.fusion_core.proofs.TouchSums.{pairs-append, times-append, pairs-cons}

-- each pair of the list
abbrev pub Each : (ℕ → ℕ → Type 0) → List (ℕ × ℕ) → Type 0
Each P t = (x e : ℕ) → 0 < pairs_at x e t → P x e

pub one_of : (P : ℕ → ℕ → Type 0) (k e x y : ℕ) (a b : Bool) → (a ≡ true → k ≡ x) → (b ≡ true → e ≡ y) → P k e → 0 < cond (a && b) 1 0 → P x y
one_of P k e x y true true f g p h = subst (λ z. P z y) (f refl) (subst (P k) (g refl) p)
one_of P k e x y true false f g p h = absurd (omega arith)
one_of P k e x y false b f g p h = absurd (omega arith)

pub two : {A : Type 0} (x y z : ℕ) → z ≡ x + y → (0 < x → A) → (0 < y → A) → 0 < z → A
two zero y z is a b h = b (omega arith)
two (suc x) y z is a b h = a (omega arith)

pub each_one : (P : ℕ → ℕ → Type 0) (k e : ℕ) → P k e → Each P ((k, e) ∷ [])
each_one P k e p x y h = one_of P k e x y (eqb k x) (eqb e y) (eqb-true k x) (eqb-true e y) p (omega (arith, h))

pub each_append : (P : ℕ → ℕ → Type 0) (t u : List (ℕ × ℕ)) → Each P t → Each P u → Each P (t ++ u)
each_append P t u a b x y h = two (pairs_at x y t) (pairs_at x y u) _ (pairs-append x y t u) (a x y) (b x y) h

pub each_cons : (P : ℕ → ℕ → Type 0) (k e : ℕ) (t : List (ℕ × ℕ)) → P k e → Each P t → Each P ((k, e) ∷ t)
each_cons P k e t p a x y h = two (cond (eqb k x && eqb e y) 1 0) (pairs_at x y t) _ (pairs-cons x y (k, e) t) (one_of P k e x y (eqb k x) (eqb e y) (eqb-true k x) (eqb-true e y) p) (a x y) h

by_tests : (P : ℕ → ℕ → Type 0) (k e : ℕ) (t : List (ℕ × ℕ)) (a b : Bool) → (a ≡ true → P k e) → Each P t → Each P (cond a (cond b t (t ++ (k, e) ∷ [])) t)
by_tests P k e t true true is old = old
by_tests P k e t true false is old = each_append P t ((k, e) ∷ []) old (each_one P k e (is refl))
by_tests P k e t false b is old = old

pub touched_more : (P : ℕ → ℕ → Type 0) (k e x : ℕ) (t : List (ℕ × ℕ)) → (x ≡ k → P k e) → Each P t → Each P (touched_after k e x t)
touched_more P k e x t is old = by_tests P k e t (eqb x k) (has_first k t) (λ h. is (eqb-true x k h)) old

one_here : (a b : Bool) → a ≡ true → b ≡ true → 0 < cond (a && b) 1 0
one_here true true x y = omega arith
one_here true false x y = absurd (false≢true y)
one_here false b x y = absurd (false≢true x)

pub holds_here : (k e : ℕ) (t : List (ℕ × ℕ)) → 0 < pairs_at k e ((k, e) ∷ t)
holds_here k e t = let h : 0 < cond (eqb k k && eqb e e) 1 0 = one_here (eqb k k) (eqb e e) (eq-eqb k k refl) (eq-eqb e e refl) in omega (arith, h, pairs-cons k e (k, e) t)

-- a first stands in a pair
paired_by : (k : ℕ) (p : ℕ × ℕ) (ps : List (ℕ × ℕ)) (a b : Bool) → (a ≡ true → p.0 ≡ k) → (b ≡ true → (e : ℕ) × (0 < pairs_at k e ps)) → (a || b) ≡ true → (e : ℕ) × (0 < pairs_at k e (p ∷ ps))
paired_by k p ps true b is more h = (p.1, subst (λ x. 0 < pairs_at x p.1 (p ∷ ps)) (is refl) (holds_here p.0 p.1 ps))
paired_by k p ps false b is more h = let o = more h in (o.0, (let q : 0 < pairs_at k o.0 ps = o.1 in let r : 0 < pairs_at k o.0 (p ∷ ps) = omega (arith, q, pairs-cons k o.0 p ps) in r))

pub paired : (k : ℕ) (t : List (ℕ × ℕ)) → has_first k t ≡ true → (e : ℕ) × (0 < pairs_at k e t)
paired k [] h = absurd (false≢true h)
paired k (p ∷ ps) h = paired_by k p ps (eqb p.0 k) (has_first k ps) (eqb-true p.0 k) (paired k ps) h

has_by : (k e : ℕ) (t : List (ℕ × ℕ)) (a b : Bool) → a ≡ true → (b ≡ true → (d : ℕ) × (0 < pairs_at k d t)) → (d : ℕ) × (0 < pairs_at k d (cond a (cond b t (t ++ (k, e) ∷ [])) t))
has_by k e t true true is old = old refl
has_by k e t true false is old = (e, omega (arith, pairs-append k e t ((k, e) ∷ []), holds_here k e []))
has_by k e t false b is old = absurd (false≢true is)

pub touched_has : (k e : ℕ) (t : List (ℕ × ℕ)) → (d : ℕ) × (0 < pairs_at k d (touched_after k e k t))
touched_has k e t = has_by k e t (eqb k k) (has_first k t) (eq-eqb k k refl) (paired k t)

keeps_by : (x y k e : ℕ) (t : List (ℕ × ℕ)) (a b : Bool) → 0 < pairs_at x y t → 0 < pairs_at x y (cond a (cond b t (t ++ (k, e) ∷ [])) t)
keeps_by x y k e t true true h = h
keeps_by x y k e t true false h = omega (arith, pairs-append x y t ((k, e) ∷ []))
keeps_by x y k e t false b h = h

pub touched_keeps : (x y k e r : ℕ) (t : List (ℕ × ℕ)) → 0 < pairs_at x y t → 0 < pairs_at x y (touched_after k e r t)
touched_keeps x y k e r t h = keeps_by x y k e t (eqb r k) (has_first k t) h

one_time : (k x : ℕ) (a : Bool) → (a ≡ true → k ≡ x) → 0 < cond a 1 0 → k ≡ x
one_time k x true f h = f refl
one_time k x false f h = absurd (omega arith)

-- what one more key adds
pub times_more : (P : ℕ → Type 0) (k : ℕ) (l : List ℕ) → P k → ((x : ℕ) → 0 < times x l → P x) → (x : ℕ) → 0 < times x (l ++ k ∷ []) → P x
times_more P k l p old x h = two (times x l) (times x (k ∷ [])) _ (times-append x l (k ∷ [])) (old x) (λ y. subst P (one_time k x (eqb k x) (eqb-true k x) (omega (arith, y))) p) h

pub times_both : (P : ℕ → Type 0) (l m : List ℕ) → ((x : ℕ) → 0 < times x l → P x) → ((x : ℕ) → 0 < times x m → P x) → (x : ℕ) → 0 < times x (l ++ m) → P x
times_both P l m a b x h = two (times x l) (times x m) _ (times-append x l m) (a x) (b x) h

cond_is : (k x : ℕ) (a : Bool) → (a ≡ true → k ≡ x) → (k ≡ x → a ≡ true) → (k ≢ x → ◌≡◌ {A = ℕ} (cond a 1 0) 0) × (k ≡ x → ◌≡◌ {A = ℕ} (cond a 1 0) 1)
cond_is k x true f g = ((λ ne. absurd (ne (f refl))), λ _. refl)
cond_is k x false f g = ((λ _. refl), λ e. absurd (false≢true (g e)))

pub test_no : (k x : ℕ) → k ≢ x → ◌≡◌ {A = ℕ} (cond (eqb k x) 1 0) 0
test_no k x ne = (cond_is k x (eqb k x) (eqb-true k x) (eq-eqb k x)).0 ne

pub test_yes : (k x : ℕ) → k ≡ x → ◌≡◌ {A = ℕ} (cond (eqb k x) 1 0) 1
test_yes k x e = (cond_is k x (eqb k x) (eqb-true k x) (eq-eqb k x)).1 e
