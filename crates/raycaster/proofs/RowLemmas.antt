-- A row of samples that is written from left to right.
use Rattle.std.proofs.Common.{◌≡◌, ℕ, ◌+◌, ◌<◌, ◌≤◌, ◌≢◌, List, length, get_or, set, ap, subst, ◌∙◌, inl, inr, ◌⊎◌, arith}
use Rattle.std.specs.Prelude.{ℤ, pos, unsigned_abs}
use Rattle.std.proofs.lemmas.Bool.{cases_lt}
use Rattle.std.proofs.lemmas.List.{get_or-set_other, get_or-set_same}
use Rattle.std.proofs.lemmas.List.FromFn.{fill_by_all}
use Rattle.raycaster.specs.Walk.{Scene, row_samples, sample}

-- the first n samples of a row are written
pub record HasSamples (s : Scene) (v : ℕ) (out : List ℕ) (n : ℕ) : Type 0 where
  pub are : (k : ℕ) → k < n → get_or out k 0 ≡ sample s k v

module _ (s : Scene) (v : ℕ) (out : List ℕ) (n : ℕ) (h : HasSamples s v out n) where
  pub one_more_sample : (x : ℕ) → n < length out → x ≡ sample s n v → HasSamples s v (set out n x) (n + 1)
  one_more_sample x inside is = record { are = λ k low. by k low (cases_lt k n) }
    where
      by : (k : ℕ) → k < n + 1 → (k < n) ⊎ (n ≤ k) → get_or (set out n x) k 0 ≡ sample s k v
      by k low (inl l) = (let other : k ≢ n = omega (arith, l) in get_or-set_other out n k x 0 other ∙ h.are k l)
      by k low (inr g) = (let same : n ≡ k = omega (arith, low, g) in subst (λ k. get_or (set out n x) k 0 ≡ sample s k v) same (get_or-set_same out n x 0 inside ∙ is))

  pub whole_row : pos (length out) ≡ s.camera.width → length out ≤ n → out ≡ row_samples s v
  unfolding row_samples
  whole_row wide all = fill_by_all (λ u. sample s u v) out (unsigned_abs s.camera.width) 0 (ap (λ (z : ℤ). unsigned_abs z) wide) (λ k low. h.are k (below k low))
    where
      below : (k : ℕ) → k < unsigned_abs s.camera.width → k < n
      below k low = (let count : length out ≡ unsigned_abs s.camera.width = ap (λ (z : ℤ). unsigned_abs z) wide in omega (arith, low, count, all))
