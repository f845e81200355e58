-- A whole machine with all jobs done gives something back.
use Rattle.std.proofs.Common.{◌≡◌, ℕ, suc, ◌+◌, ◌<◌, eqb, cond, List, [], ◌∷◌, ◌++◌, length, map, sym, refl, ap, arith, drop, ◌∙◌}
use Rattle.std.specs.Prelude.{Option, None, Some, IsSome, sum_by}
use Rattle.std.proofs.lemmas.Bool.{false≢true}
use Rattle.std.proofs.lemmas.List.Sums.{sum_by-cons}
use Rattle.block_heap.specs.declared.cell.Cell.{Cell}
use Rattle.fusion_core.specs.declared.board.dock.Dock.{Dock}
use Rattle.fusion_core.specs.declared.board.done.Done.{Done}
use Rattle.fusion_core.specs.declared.board.done.Done.TheVariants as done
use Rattle.fusion_core.specs.declared.board.slot.Slot.{Slot}
use Rattle.fusion_core.specs.declared.board.slot.Slot.TheVariants.{OfCell, OfDock, Away}
use Rattle.fusion_core.specs.Jobs.{slot_at, slots_of}
use Rattle.fusion_core.specs.BoardStates.{BoardState, IsWhole, done_at, kind}
use Rattle.fusion_core.specs.BoardEnds.{End, IsGiven, all_done, frees}
use Rattle.fusion_core.specs.BoardLaws.{IsOver, WholeEnds}
use Rattle.fusion_core.specs.Counts.{count_of}
use Rattle.fusion_core.proofs.EndLemmas.{given_ends}
use Rattle.fusion_core.proofs.SumLemmas.{count_of-append}

cell_of : (s : Slot) → kind s ≡ 0 → (c : Cell) × (OfCell c ≡ s)
cell_of (OfCell c) e = (c, refl)
cell_of (OfDock d) e = absurd (omega arith)
cell_of Away e = absurd (omega arith)

dock_of : (s : Slot) → kind s ≡ 1 → (d : Dock) × (OfDock d ≡ s)
dock_of (OfCell c) e = absurd (omega arith)
dock_of (OfDock d) e = (d, refl)
dock_of Away e = absurd (omega arith)

-- a row of the kinds of docks alone
all_docks : (docks : List Dock) (slots : List Slot) → length slots ≡ length (map OfDock docks) → ((k : ℕ) → kind (slot_at slots k) ≡ kind (slot_at (map OfDock docks) k))
    → (ds : List Dock) × (map OfDock ds ≡ slots) × (length ds ≡ length docks)
all_docks [] [] long same = ([], refl, refl)
all_docks [] (x ∷ xs) long same = absurd (omega arith)
all_docks (d ∷ ds) [] long same = absurd (omega arith)
all_docks (d ∷ ds) (x ∷ xs) long same =
    let y = dock_of x (same 0) in let r = all_docks ds xs (omega arith) (λ k. same (suc k)) in
    (y.0 ∷ r.0, ap (λ (z : Slot). z ∷ map OfDock r.0) y.1 ∙ ap (λ (l : List Slot). x ∷ l) r.1, ap suc r.2)

-- a row of the kinds of cells and then docks is one of as many cells and then docks
in_parts : (cells : List Cell) (docks : List Dock) (slots : List Slot) → length slots ≡ length (slots_of cells docks) → ((k : ℕ) → kind (slot_at slots k) ≡ kind (slot_at (slots_of cells docks) k))
    → (cs : List Cell) × (ds : List Dock) × (slots_of cs ds ≡ slots) × (length cs ≡ length cells) × (length ds ≡ length docks)
in_parts [] docks slots long same = let r = all_docks docks slots long same in ([], r.0, r.1, refl, r.2)
in_parts (c ∷ cs) docks [] long same = absurd (omega arith)
in_parts (c ∷ cs) docks (x ∷ xs) long same =
    let y = cell_of x (same 0) in let r = in_parts cs docks xs (omega arith) (λ k. same (suc k)) in
    (y.0 ∷ r.0, r.1, ap (λ (z : Slot). z ∷ slots_of r.0 r.1) y.1 ∙ ap (λ (l : List Slot). x ∷ l) r.2, ap suc r.3, r.4)

-- the answers of jobs that are all done
all_told : (answers : List (Option Done)) → ((j : ℕ) → j < length answers → IsSome (done_at answers j)) → (ds : List Done) × (all_done ds ≡ answers)
all_told [] over = ([], refl)
all_told (None ∷ rest) over = absurd (false≢true (over 0 (omega arith)))
all_told (Some d ∷ rest) over = let r = all_told rest (λ j lt. over (suc j) (omega arith)) in (d ∷ r.0, ap (λ (l : List (Option Done)). Some d ∷ l) r.1)

-- the cells that the answers tell to be free
abbrev freed : List Done → List ℕ
freed [] = []
freed (done.Cell c ∷ ds) = freed ds
freed (done.Freed c ∷ ds) = c ∷ freed ds
freed (done.Looked s ∷ ds) = freed ds

freed_count : (c : ℕ) (ds : List Done) → count_of c (freed ds) ≡ sum_by (frees c) ds
freed_count c [] = refl
freed_count c (done.Cell i ∷ ds) = omega (arith, freed_count c ds, sum_by-cons (frees c) (done.Cell i) ds)
freed_count c (done.Freed i ∷ ds) =
    sum_by-cons (λ (z : ℕ). cond (eqb z c) 1 0) i (freed ds)
    ∙ ap (λ (n : ℕ). frees c (done.Freed i) + n) (freed_count c ds)
    ∙ sym (sum_by-cons (frees c) (done.Freed i) ds)
freed_count c (done.Looked s ∷ ds) = omega (arith, freed_count c ds, sum_by-cons (frees c) (done.Looked s) ds)

given : (m : BoardState) → IsWhole m → IsOver m → (e : End) × IsGiven m e
given m o over =
    let p = in_parts m.start.cells m.start.docks m.slots o.slot_count o.kinds in
    let t = all_told m.done (λ j lt. over j (let n = o.done_count in omega arith)) in
    let rest : List ℕ = drop m.cursor m.start.free in (
      record { cells = p.0; docks = p.1; free = rest ++ freed t.0; done = t.0 },
      record {
        slots = p.2;
        cells = p.3;
        docks = p.4;
        done = t.1;
        free = λ c. count_of-append c rest (freed t.0) ∙ ap (λ (n : ℕ). count_of c rest + n) (freed_count c t.0);
      },
    )

pub whole_ends : WholeEnds
whole_ends m o over = (given m o over, λ e g. given_ends m e o over g)
