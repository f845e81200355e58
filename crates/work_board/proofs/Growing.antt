-- A seat's list grows with each turn, and no further than there are jobs.
use Rattle.std.proofs.Common.{◌≡◌, ℕ, ◌+◌, ◌<◌, ◌≤◌, List, [], ◌∷◌, ◌++◌, length, drop, sym, ap, ◌∙◌, arith, append_assoc, subst}
use Rattle.std.proofs.lemmas.List.{drop-append-le, length-drop}
use mathlib.Core.Logic.{dite}
use native.Mathlib.Decide.{dec_le}
use Rattle.fusion_core.specs.Counts.{count_of}
use Rattle.fusion_core.proofs.SumLemmas.{count_of-append, one_only}
use Rattle.work_board.specs.Steps.{NoneTwice}
use Rattle.work_board.proofs.Counting.{pigeons}

pub dropped_more : (d0 d e : List ℕ) (j : ℕ) → e ≡ d ++ j ∷ [] → length d0 ≤ length d → drop (length d0) e ≡ drop (length d0) d ++ j ∷ []
dropped_more d0 d e j q le = ap (drop (length d0)) q ∙ drop-append-le (length d0) d (j ∷ []) le

pub did_more : (d0 d e : List ℕ) (j : ℕ) → d ≡ d0 ++ drop (length d0) d → e ≡ d ++ j ∷ [] → length d0 ≤ length d → e ≡ d0 ++ drop (length d0) e
did_more d0 d e j p q le = q ∙ ap (λ (l : List ℕ). l ++ j ∷ []) p ∙ (append_assoc d0 (drop (length d0) d) (j ∷ []) ∙ ap (λ (l : List ℕ). d0 ++ l) (sym (dropped_more d0 d e j q le)))

pub below_still : (d0 d e : List ℕ) (j n : ℕ) → e ≡ d ++ j ∷ [] → length d0 ≤ length d → j < n → ((x : ℕ) → 0 < count_of x (drop (length d0) d) → x < n) → (x : ℕ) → 0 < count_of x (drop (length d0) e) → x < n
below_still d0 d e j n q le lt h x more =
    let both = ap (count_of x) (dropped_more d0 d e j q le) ∙ count_of-append x (drop (length d0) d) (j ∷ []) in
    dite (dec_le 1 (count_of x (drop (length d0) d))) (λ is. h x (omega arith)) (λ no. subst (λ (z : ℕ). z < n) (one_only x j (omega arith)) lt)

pub too_many : (d0 d : List ℕ) (n i : ℕ) → d ≡ d0 ++ drop (length d0) d → length d ≡ length d0 + i → NoneTwice d → ((x : ℕ) → 0 < count_of x (drop (length d0) d) → x < n) → n + 1 ≤ i → ⊥
too_many d0 d n i p len once low le =
    let most : length (drop (length d0) d) ≤ n = pigeons n (drop (length d0) d) (λ x. let a = once x in let b = ap (count_of x) p ∙ count_of-append x d0 (drop (length d0) d) in omega arith) low in
    let is = length-drop (length d0) d in absurd (omega arith)
