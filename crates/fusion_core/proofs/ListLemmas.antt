-- A list read by place, after a write.
use Rattle.std.proofs.Common.{◌≡◌, ◌≢◌, ℕ, zero, suc, ◌⊎◌, List, [], ◌∷◌, set, ap, refl, inl, inr, ⊎_elim, arith}
use Rattle.std.specs.Prelude.{Some, slice_get}
use Rattle.fusion_core.proofs.SumLemmas.{none_no_some, some_same}

pub slice_get-set : {A : Type 0} → (l : List A) (i j : ℕ) (a b : A) → slice_get (set l i a) j ≡ Some b → ((j ≡ i) × (a ≡ b)) ⊎ ((j ≢ i) × (slice_get l j ≡ Some b))
slice_get-set [] i j a b e = none_no_some b e
slice_get-set (x ∷ xs) zero zero a b e = inl (refl, some_same a b e)
slice_get-set (x ∷ xs) zero (suc j) a b e = inr ((λ h. omega arith), e)
slice_get-set (x ∷ xs) (suc i) zero a b e = inr ((λ h. omega arith), e)
slice_get-set (x ∷ xs) (suc i) (suc j) a b e = ⊎_elim (λ t. inl (ap suc t.0, t.1)) (λ t. let n = t.0 in inr ((λ h. n (omega arith)), t.1)) (slice_get-set xs i j a b e)
