-- The places of a row, one of which changes, and how many of them hold a block.
use Rattle.std.proofs.Common.{◌≡◌, ◌≢◌, ℕ, zero, suc, ◌+◌, ◌*◌, ◌<◌, [], ◌∷◌, length, refl, sym, ap, ◌∙◌, arith, set, get_or, cond}
use Rattle.std.specs.Prelude.{Option, Some, None, is_some, option_map, replicate}
use Rattle.std.specs.List.{count_by}
use Rattle.std.proofs.lemmas.List.Sums.{sum_by-set}
use Rattle.std.proofs.lemmas.List.Folds.{sum_by-replicate}
use Rattle.chunk_store.specs.Rows.{Held, Row, held_at}

pub written_here : (row : Row) (i : ℕ) (place : Option Held) → i < length row → held_at (set row i place) i ≡ place
written_here [] i place lt = absurd (omega arith)
written_here (p ∷ ps) zero place lt = refl
written_here (p ∷ ps) (suc i) place lt = written_here ps i place (omega arith)

pub written_elsewhere : (row : Row) (i j : ℕ) (place : Option Held) → j ≢ i → held_at (set row i place) j ≡ held_at row j
written_elsewhere [] i j place ne = refl
written_elsewhere (p ∷ ps) zero zero place ne = absurd (ne refl)
written_elsewhere (p ∷ ps) zero (suc j) place ne = refl
written_elsewhere (p ∷ ps) (suc i) zero place ne = refl
written_elsewhere (p ∷ ps) (suc i) (suc j) place ne = written_elsewhere ps i j place (λ e. ne (ap suc e))

held_is : (row : Row) (i : ℕ) → held_at row i ≡ get_or row i None
held_is [] i = refl
held_is (p ∷ ps) zero = refl
held_is (p ∷ ps) (suc i) = held_is ps i

abbrev nothing : Option Held
nothing = None

pub one_more : (row : Row) (i n : ℕ) (h : Held) → i < length row → held_at row i ≡ None → n ≡ count_by is_some row → n + 1 ≡ count_by is_some (set row i (Some h))
one_more row i n h lt vacant is =
    let s : count_by is_some (set row i (Some h)) + cond (is_some (get_or row i None)) 1 0 ≡ count_by is_some row + 1 = sum_by-set (λ p. cond (is_some p) 1 0) row i (Some h) None lt in
    let z : ◌≡◌ {A = ℕ} (cond (is_some (get_or row i None)) 1 0) 0 = ap (λ (p : Option Held). cond (is_some p) 1 0) (sym (held_is row i) ∙ vacant) in
    omega arith

pub nothing_yet : (n : ℕ) → count_by is_some (replicate n nothing) ≡ 0
nothing_yet n = (let s : count_by is_some (replicate n nothing) ≡ n * 0 = sum_by-replicate (λ p. cond (is_some p) 1 0) n nothing in omega arith)

pub held_at_none : (n i : ℕ) → held_at (replicate n None) i ≡ None
held_at_none zero i = refl
held_at_none (suc n) zero = refl
held_at_none (suc n) (suc i) = held_at_none n i

pub no_block : (place : Option Held) → option_map (λ h. h.1) place ≡ None → place ≡ None
no_block None e = refl
no_block (Some h) e = absurd (cc)
