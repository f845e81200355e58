-- What a ready board gives: no slot is named twice, or named and free, and what is named is there.
use Rattle.std.proofs.Common.{◌≡◌, ℕ, zero, suc, ◌+◌, ◌<◌, ◌≤◌, List, [], ◌∷◌, length, sym, refl, ap, arith, subst, ◌∙◌, Bool, true, false}
use Rattle.std.specs.Prelude.{slice_get}
use Rattle.std.proofs.lemmas.Bool.{false≢true}
use mathlib.Core.Logic.{dite}
use native.Mathlib.Decide.{ℕ_discrete, dec_le}
use Rattle.block_heap.specs.declared.cell.Cell.{Cell}
use Rattle.block_heap.specs.Cells.{is_free, has_free, is_free_at}
use Rattle.fusion_core.specs.declared.board.dock.Dock.{Dock}
use Rattle.fusion_core.specs.declared.board.job.Job.{Job}
use Rattle.fusion_core.specs.declared.board.job.Job.TheVariants.{Fresh, Stay, Enter, Leave, Check}
use Rattle.fusion_core.specs.declared.board.slot.Slot.{Slot}
use Rattle.fusion_core.specs.declared.board.slot.Slot.TheVariants.{OfCell, OfDock, Away}
use Rattle.fusion_core.specs.Jobs.{Start, slots_of, slot_at, job_at, names}
use Rattle.fusion_core.specs.Boards.{HoldsOwned, IsReady, IsSuited, name_count}
use Rattle.fusion_core.specs.Counts.{count_of}
use Rattle.fusion_core.proofs.SumLemmas.{no_test, none_item, one_only}

abbrev slot_free : Slot → Bool
slot_free (OfCell c) = is_free c
slot_free (OfDock d) = false
slot_free Away = false

abbrev is_there : Slot → Bool
is_there (OfCell c) = true
is_there (OfDock d) = true
is_there Away = false

cell_free : (cells : List Cell) (docks : List Dock) (c : ℕ) → c < length cells → slot_free (slot_at (slots_of cells docks) c) ≡ has_free (slice_get cells c)
cell_free [] docks c h = absurd (omega arith)
cell_free (x ∷ xs) docks zero h = refl
cell_free (x ∷ xs) docks (suc c) h = cell_free xs docks c (omega arith)

pub free_inside : (cells : List Cell) (k : ℕ) → is_free_at cells k ≡ true → k < length cells
free_inside [] k e = absurd (false≢true e)
free_inside (x ∷ xs) zero e = omega arith
free_inside (x ∷ xs) (suc k) e = let h = free_inside xs k e in omega arith

owned_not_free : (st : Start) (c : ℕ) → c < length st.cells → HoldsOwned st c → is_free_at st.cells c ≡ true → ⊥
owned_not_free st c lt o e = false≢true (sym (ap slot_free o.2) ∙ cell_free st.cells st.docks c lt ∙ e)

one_no : (c k : ℕ) → (c ≡ k → ⊥) → count_of k (c ∷ []) ≡ 0
one_no c k h = let z = no_test c k h in omega arith

-- no job names a free cell
pub unnamed : (st : Start) (k : ℕ) (job : Job) → is_free_at st.cells k ≡ true → IsSuited st job → count_of k (names (length st.cells) job) ≡ 0
unnamed st k (Fresh key) e s = refl
unnamed st k (Stay cell) e s = one_no cell k (λ q. owned_not_free st cell s.0 s.1 (ap (is_free_at st.cells) q ∙ e))
unnamed st k (Enter dock) e s = one_no (length st.cells + dock) k (λ q. absurd (let lt = free_inside st.cells k e in omega arith))
unnamed st k (Leave cell dock) e s =
    let a = one_no (length st.cells + dock) k (λ q. absurd (let lt = free_inside st.cells k e in omega arith)) in
    let b = one_no cell k (λ q. owned_not_free st cell s.0 s.1 (ap (is_free_at st.cells) q ∙ e)) in omega arith
unnamed st k (Check cell) e s = one_no cell k (λ q. owned_not_free st cell s.0 s.1 (ap (is_free_at st.cells) q ∙ e))

-- a slot is named by one job, or free, at most once
pub apart : (st : Start) → IsReady st → (k : ℕ) → count_of k st.free + name_count st k st.jobs ≤ 1
apart st r k = dite (dec_le 1 (count_of k st.free))
    (λ is. let e = r.free k (omega arith) in
    let unnamed-all : name_count st k st.jobs ≡ 0 = none_item (λ job. count_of k (names (length st.cells) job)) st.jobs (Check 0) (λ j h. unnamed st k (job_at st j) e (r.suited j h)) in
    let d = r.distinct k in omega arith)
    (λ no. let a = r.apart k in omega arith)

there_inside : (slots : List Slot) (k : ℕ) → is_there (slot_at slots k) ≡ true → k < length slots
there_inside [] k e = absurd (false≢true e)
there_inside (x ∷ xs) zero e = omega arith
there_inside (x ∷ xs) (suc k) e = let h = there_inside xs k e in omega arith

cells_inside : (cells : List Cell) (docks : List Dock) → length cells ≤ length (slots_of cells docks)
cells_inside [] docks = omega arith
cells_inside (x ∷ xs) docks = let h = cells_inside xs docks in omega arith

both_cases : {P : Type 0} (a b k : ℕ) → (a ≡ k → P) → (b ≡ k → P) → 0 < count_of k (a ∷ b ∷ []) → P
both_cases a b k f g h = dite (ℕ_discrete a k) f (λ na. dite (ℕ_discrete b k) g (λ nb. absurd (let x = no_test a k na in let y = no_test b k nb in omega arith)))

named_inside : (st : Start) (k : ℕ) (job : Job) → IsSuited st job → 0 < count_of k (names (length st.cells) job) → k < length (slots_of st.cells st.docks)
named_inside st k (Fresh key) s h = absurd (omega arith)
named_inside st k (Stay cell) s h = let q = one_only k cell h in let b = cells_inside st.cells st.docks in let lt = s.0 in omega arith
named_inside st k (Enter dock) s h = subst (λ (n : ℕ). n < length (slots_of st.cells st.docks)) (one_only k (length st.cells + dock) h) (there_inside (slots_of st.cells st.docks) (length st.cells + dock) (ap is_there s.2))
named_inside st k (Leave cell dock) s h = both_cases (length st.cells + dock) cell k
    (λ q. subst (λ (n : ℕ). n < length (slots_of st.cells st.docks)) q (there_inside (slots_of st.cells st.docks) (length st.cells + dock) (ap is_there s.2.1)))
    (λ q. let b = cells_inside st.cells st.docks in let lt = s.0 in omega arith) h
named_inside st k (Check cell) s h = let q = one_only k cell h in let b = cells_inside st.cells st.docks in let lt = s.0 in omega arith

-- what is named or free is there
pub inside : (st : Start) → IsReady st → (j k : ℕ) → j < length st.jobs → 0 < count_of k st.free + count_of k (names (length st.cells) (job_at st j)) → k < length (slots_of st.cells st.docks)
inside st r j k lt h = dite (dec_le 1 (count_of k st.free))
    (λ is. let e = free_inside st.cells k (r.free k (omega arith)) in let b = cells_inside st.cells st.docks in omega arith)
    (λ no. named_inside st k (job_at st j) (r.suited j lt) (omega arith))
