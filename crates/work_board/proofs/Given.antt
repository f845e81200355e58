-- What the slots, the answers and the free numbers of a board are when all its jobs are done.
use Rattle.std.proofs.Common.{◌≡◌, ℕ, suc, ◌+◌, ◌-◌, ◌<◌, ◌≤◌, List, [], ◌∷◌, ◌++◌, length, sym, refl, ap, arith, map, get_or, take, drop, subst, ◌∙◌, eqb, cond, reverse}
use Rattle.std.specs.Prelude.{Option, None, Some, IsSome, sum_by}
use Rattle.std.proofs.lemmas.Bool.{false≢true}
use Rattle.std.proofs.lemmas.List.{take-append-drop, take_at, reverse-append, length-reverse, length-drop, length-map}
use native.Mathlib.Decide.{dec_le}
use mathlib.Core.Logic.{dite}
use Rattle.block_heap.specs.declared.cell.Cell.{Cell}
use Rattle.fusion_core.specs.declared.board.dock.Dock.{Dock}
use Rattle.fusion_core.specs.declared.board.done.Done.{Done}
use Rattle.fusion_core.specs.declared.board.done.Done.TheVariants as done
use Rattle.fusion_core.specs.declared.board.job.Job.{Job}
use Rattle.fusion_core.specs.declared.board.job.Job.TheVariants.{Fresh, Stay, Enter, Leave, Check}
use Rattle.fusion_core.specs.declared.board.slot.Slot.{Slot}
use Rattle.fusion_core.specs.declared.board.slot.Slot.TheVariants.{OfCell, OfDock, Away}
use Rattle.fusion_core.specs.Jobs.{Start, slots_of, slot_at, job_at, said, drawn_for}
use Rattle.fusion_core.specs.Boards.{IsSuited}
use Rattle.fusion_core.specs.BoardStates.{BoardState, done_at, kind, IsWhole}
use Rattle.fusion_core.specs.BoardEnds.{frees, all_done}
use Rattle.work_board.specs.Rows.{cells_in, docks_in}
use Rattle.fusion_core.specs.Counts.{count_of}
use Rattle.fusion_core.proofs.SumLemmas.{count_of-append, count_of-cons, some_item, one_only}
use Rattle.fusion_core.proofs.ReadyLemmas.{apart, free_inside}
use Rattle.fusion_core.proofs.EndLemmas.{freed_le, done_there}
use Rattle.work_board.proofs.Counting.{pigeons}

not_one : ◌≡◌ {A = ℕ} 1 0 → ⊥
not_one e = absurd (omega arith)

-- a row of the kinds of cells and docks is one of cells and docks
abbrev pub IsRow : List Cell → List Dock → List Slot → Type 0
IsRow cells docks slots = (slots_of (cells_in slots) (docks_in slots) ≡ slots) × (length (cells_in slots) ≡ length cells) × (length (docks_in slots) ≡ length docks)

docks_row : (docks : List Dock) (slots : List Slot) → length slots ≡ length docks → ((k : ℕ) → kind (slot_at slots k) ≡ kind (slot_at (slots_of [] docks) k))
    → (cells_in slots ≡ []) × (map OfDock (docks_in slots) ≡ slots) × (length (docks_in slots) ≡ length docks)
docks_row [] [] e h = (refl, refl, refl)
docks_row [] (x ∷ xs) e h = absurd (omega arith)
docks_row (d ∷ ds) [] e h = absurd (omega arith)
docks_row (d ∷ ds) (OfDock x ∷ xs) e h = let r = docks_row ds xs (omega arith) (λ k. h (suc k)) in (r.0, ap (λ (l : List Slot). OfDock x ∷ l) r.1, ap suc r.2)
docks_row (d ∷ ds) (OfCell x ∷ xs) e h = absurd (not_one (sym (h 0)))
docks_row (d ∷ ds) (Away ∷ xs) e h = absurd (let z : ◌≡◌ {A = ℕ} 2 1 = h 0 in omega arith)

pub is_row : (cells : List Cell) (docks : List Dock) (slots : List Slot) → length slots ≡ length (slots_of cells docks)
    → ((k : ℕ) → kind (slot_at slots k) ≡ kind (slot_at (slots_of cells docks) k)) → IsRow cells docks slots
is_row [] docks slots e h = let r = docks_row docks slots (e ∙ length-map docks OfDock) h in
    (ap (λ (l : List Cell). slots_of l (docks_in slots)) r.0 ∙ r.1, ap length r.0, r.2)
is_row (c ∷ cs) docks [] e h = absurd (omega arith)
is_row (c ∷ cs) docks (OfCell x ∷ xs) e h = let r = is_row cs docks xs (omega arith) (λ k. h (suc k)) in (ap (λ (l : List Slot). OfCell x ∷ l) r.0, ap suc r.1, r.2)
is_row (c ∷ cs) docks (OfDock x ∷ xs) e h = absurd (not_one (h 0))
is_row (c ∷ cs) docks (Away ∷ xs) e h = absurd (let z : ◌≡◌ {A = ℕ} 2 0 = h 0 in omega arith)

pub whole_row : (m : BoardState) → IsWhole m → IsRow m.start.cells m.start.docks m.slots
whole_row m o = is_row m.start.cells m.start.docks m.slots o.slot_count o.kinds

-- ---- the answers

abbrev pub somes : List (Option Done) → List Done
somes [] = []
somes (None ∷ ds) = somes ds
somes (Some d ∷ ds) = d ∷ somes ds

pub all_some : (ds : List (Option Done)) → ((j : ℕ) → j < length ds → IsSome (done_at ds j)) → all_done (somes ds) ≡ ds
all_some [] h = refl
all_some (None ∷ ds) h = absurd (false≢true (h 0 (omega arith)))
all_some (Some d ∷ ds) h = ap (λ (l : List (Option Done)). Some d ∷ l) (all_some ds (λ j lt. h (suc j) (omega arith)))

-- ---- the free numbers

count_of-reverse : (x : ℕ) (l : List ℕ) → count_of x (reverse l) ≡ count_of x l
count_of-reverse x [] = refl
count_of-reverse x (y ∷ ys) = ap (count_of x) (reverse-append (y ∷ []) ys) ∙ (omega (arith, count_of-append x (reverse ys) (y ∷ []), count_of-reverse x ys, count_of-cons x y ys, count_of-cons x y []))

-- the free numbers from a place on, in the other order
pub rest_free : (l : List ℕ) (i x : ℕ) → i ≤ length l → count_of x (take (length l - i) (reverse l)) ≡ count_of x (drop i l)
rest_free l i x le =
    let e : reverse l ≡ reverse (drop i l) ++ reverse (take i l) = ap reverse (sym (take-append-drop i l)) ∙ reverse-append (take i l) (drop i l) in
    let n : length (reverse (drop i l)) ≡ length l - i = length-reverse (drop i l) ∙ length-drop i l in
    ap (λ (k : List ℕ). count_of x (take (length l - i) k)) e ∙ ap (count_of x) (take_at (reverse (drop i l)) (reverse (take i l)) (length l - i) n) ∙ count_of-reverse x (drop i l)

frees_inside : (st : Start) (job : Job) (d : Done) (x : ℕ) → IsSuited st job → d ≡ said st job (drawn_for job d) → 0 < frees x d → x < length st.cells
frees_inside st (Fresh key) d x s e more = absurd (let h : 0 < 0 = subst (λ (z : Done). 0 < frees x z) e more in omega arith)
frees_inside st (Stay cell) d x s e more = absurd (let h : 0 < 0 = subst (λ (z : Done). 0 < frees x z) e more in omega arith)
frees_inside st (Enter dock) d x s e more = absurd (let h : 0 < 0 = subst (λ (z : Done). 0 < frees x z) e more in omega arith)
frees_inside st (Leave cell dock) d x s e more = let h : 0 < cond (eqb cell x) 1 0 = subst (λ (z : Done). 0 < frees x z) e more in
    let q = one_only x cell (let c = count_of-cons x cell [] in omega arith) in let lt = s.0 in omega arith
frees_inside st (Check cell) d x s e more = absurd (let h : 0 < 0 = subst (λ (z : Done). 0 < frees x z) e more in omega arith)

-- free numbers and freed ones, taken together, leave room for as many as there are cells
pub freed_room : (m : BoardState) (ds : List Done) (l : List ℕ) → IsWhole m → all_done ds ≡ m.done
    → ((x : ℕ) → count_of x l ≤ count_of x (drop m.cursor m.start.free) + sum_by (frees x) ds) → length l ≤ length m.start.cells
freed_room m ds l o is h =
    let st : Start = m.start in
    let count : length ds ≡ length st.jobs = sym (length-map ds Some) ∙ ap length is ∙ o.done_count in
    let cut : (x : ℕ) → count_of x st.free ≡ count_of x (take m.cursor st.free) + count_of x (drop m.cursor st.free) = λ x. ap (count_of x) (sym (take-append-drop m.cursor st.free)) ∙ count_of-append x (take m.cursor st.free) (drop m.cursor st.free) in
    pigeons (length st.cells) l
    (λ x. let a = h x in let b = freed_le m ds o is x in let c = cut x in let p = apart st o.ready x in omega arith)
    (λ x more. dite (dec_le 1 (count_of x st.free))
    (λ f. free_inside st.cells x (o.ready.free x (omega arith)))
    (λ no. let a = h x in let c = cut x in let t = some_item (frees x) ds (done.Cell 0) (omega arith) in
    let was = sym (ap (λ (k : List (Option Done)). done_at k t.0) is) ∙ done_there ds t.0 (done.Cell 0) t.1 in
    frees_inside st (job_at st t.0) (get_or ds t.0 (done.Cell 0)) x (o.ready.suited t.0 (omega arith)) (o.result t.0 (get_or ds t.0 (done.Cell 0)) was).said t.2))

-- ---- a row taken apart again

docks_back : (docks : List Dock) → (cells_in (map OfDock docks) ≡ []) × (docks_in (map OfDock docks) ≡ docks)
docks_back [] = (refl, refl)
docks_back (d ∷ ds) = let r = docks_back ds in (r.0, ap (λ (l : List Dock). d ∷ l) r.1)

pub row_back : (cells : List Cell) (docks : List Dock) → (cells_in (slots_of cells docks) ≡ cells) × (docks_in (slots_of cells docks) ≡ docks)
row_back [] docks = docks_back docks
row_back (c ∷ cs) docks = let r = row_back cs docks in (ap (λ (l : List Cell). c ∷ l) r.0, r.1)

-- slots that come back are the cells and the docks
pub back : (cells : List Cell) (docks : List Dock) (xs ys : List Slot) → xs ≡ ys → ys ≡ slots_of cells docks → (cells_in xs ≡ cells) × (docks_in xs ≡ docks)
back cells docks xs ys p q = let r = row_back cells docks in (ap cells_in (p ∙ q) ∙ r.0, ap docks_in (p ∙ q) ∙ r.1)
