-- Numbers in a stack.
use Rattle.std.proofs.Common.{◌≡◌, ◌≢◌, ℕ, zero, suc, ◌+◌, ◌-◌, ◌<◌, ◌≤◌, List, [], ◌∷◌, length, set, get_or, refl, sym, ap, ◌∙◌, arith, inl, inr}
use Rattle.std.proofs.lemmas.List.{get_or-set_same, get_or-set_other}
use Rattle.std.proofs.lemmas.Bool.{cases_eq}
use Rattle.hash_share.specs.Spares.{stack_of, rest_of}
use Rattle.fusion_core.specs.TouchCounts.{times}
use Rattle.fusion_core.proofs.TouchPairs.{test_yes, test_no}
use Rattle.fusion_core.proofs.TouchSums.{times-cons}

pub stack_none : (xs : List ℕ) → stack_of xs 0 ≡ []
unfolding stack_of
stack_none xs = refl

pub stack_suc : (xs : List ℕ) (n : ℕ) → stack_of xs (n + 1) ≡ get_or xs n 0 ∷ stack_of xs n
unfolding stack_of
stack_suc xs n = let e : n + 1 ≡ suc n = omega arith in ap (stack_of xs) e

pub stack_length : (xs : List ℕ) (n : ℕ) → length (stack_of xs n) ≡ n
unfolding stack_of
stack_length xs zero = refl
stack_length xs (suc n) = ap suc (stack_length xs n)

pub stack_set : (xs : List ℕ) (n i y : ℕ) → n ≤ i → stack_of (set xs i y) n ≡ stack_of xs n
unfolding stack_of
stack_set xs zero i y le = refl
stack_set xs (suc n) i y le =
    let e : get_or (set xs i y) n 0 ≡ get_or xs n 0 = get_or-set_other xs i n y 0 (λ q. absurd (omega arith)) in
    let r : stack_of (set xs i y) n ≡ stack_of xs n = stack_set xs n i y (omega arith) in
    ap (λ (x : ℕ). x ∷ stack_of (set xs i y) n) e ∙ ap (λ (l : List ℕ). get_or xs n 0 ∷ l) r

pub stack_push : (xs : List ℕ) (n y : ℕ) → n < length xs → stack_of (set xs n y) (n + 1) ≡ y ∷ stack_of xs n
stack_push xs n y lt =
    let r : stack_of (set xs n y) n ≡ stack_of xs n = stack_set xs n n y (omega arith) in
    stack_suc (set xs n y) n ∙ ap (λ (x : ℕ). x ∷ stack_of (set xs n y) n) (get_or-set_same xs n y 0 lt) ∙ ap (λ (l : List ℕ). y ∷ l) r

pub stack_top : (xs : List ℕ) (n : ℕ) → 0 < n → stack_of xs n ≡ get_or xs (n - 1) 0 ∷ stack_of xs (n - 1)
stack_top xs n lt = let e : n ≡ n - 1 + 1 = omega arith in ap (stack_of xs) e ∙ stack_suc xs (n - 1)

pub stack_rest : (xs : List ℕ) (n : ℕ) → 0 < n → rest_of (stack_of xs n) ≡ stack_of xs (n - 1)
stack_rest xs n lt = ap rest_of (stack_top xs n lt)

-- ---- a number among them

pub stack_has : (xs : List ℕ) (n i x : ℕ) → i < n → get_or xs i 0 ≡ x → 0 < times x (stack_of xs n)
unfolding stack_of
stack_has xs zero i x lt is = absurd (omega arith)
stack_has xs (suc n) i x lt is =
    elim (cases_eq i n) [
      | inl q ↦ (let e : get_or xs n 0 ≡ x = ap (λ (a : ℕ). get_or xs a 0) (sym q) ∙ is in omega (arith, test_yes (get_or xs n 0) x e, times-cons x (get_or xs n 0) (stack_of xs n)))
      | inr ne ↦ omega (arith, stack_has xs n i x (omega arith) is, times-cons x (get_or xs n 0) (stack_of xs n))
    ]

pub stack_misses : (xs : List ℕ) (n x : ℕ) → times x (stack_of xs n) ≡ 0 → get_or xs n 0 ≢ x → times x (stack_of xs (n + 1)) ≡ 0
stack_misses xs n x z ne =
    ap (times x) (stack_suc xs n) ∙ (let e : times x (get_or xs n 0 ∷ stack_of xs n) ≡ 0 = omega (arith, z, test_no (get_or xs n 0) x ne, times-cons x (get_or xs n 0) (stack_of xs n)) in e)
