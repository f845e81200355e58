-- Steps of taking a table apart.
use Rattle.std.proofs.Common.{◌≡◌, ℕ, zero, suc, ◌+◌, ◌<◌, ◌≤◌, Bool, true, false, List, [], ◌∷◌, ◌++◌, length, set, take, get_or, sym, refl, ap, ◌∙◌, arith, append_assoc, get_or-set_other, length-append}
use Rattle.std.proofs.lemmas.List.{append-nil}
use mathlib.Core.Logic.{dite}
use mathlib.Core.Option.{some, some-injective, some-ne-none}
use native.Mathlib.Decide.{ℕ_discrete}
use lib.ListN.{get_elem?}
use Rattle.block_heap.specs.declared.cell.Cell.{Cell}
use Rattle.fusion_core.specs.declared.board.dock.Dock.{Dock}
use Rattle.fusion_core.specs.declared.board.done.Done.{Done}
use Rattle.fusion_core.specs.declared.board.slot.Slot.{Slot}
use Rattle.fusion_core.specs.declared.board.slot.Slot.TheVariants.{OfCell, OfDock, Away}
use Rattle.work_board.specs.Rows.{cells_in, docks_in}
use Rattle.work_board.specs.Closes.{freed_by, freed_all, done_or}

set_false : (f : List Bool) (i : ℕ) → get_or (set f i false) i false ≡ false
set_false [] i = refl
set_false (x ∷ xs) zero = refl
set_false (x ∷ xs) (suc i) = set_false xs i

pub taken_more : (f : List Bool) (i : ℕ) → ((k : ℕ) → k < i → get_or f k false ≡ false) → (k : ℕ) → k < i + 1 → get_or (set f i false) k false ≡ false
taken_more f i h k lt = dite (ℕ_discrete k i) (λ same. ap (λ (j : ℕ). get_or (set f i false) j false) same ∙ set_false f i) (λ ne. get_or-set_other f i k false false ne ∙ h k (omega arith))

pub left_more : (f : List Bool) (i n : ℕ) → ((k : ℕ) → i ≤ k → k < n → get_or f k false ≡ true) → (k : ℕ) → i + 1 ≤ k → k < n → get_or (set f i false) k false ≡ true
left_more f i n h k le lt = get_or-set_other f i k false false (λ same. absurd (omega arith)) ∙ h k (omega arith) lt

cells_cons : (x : Slot) (l : List Slot) → cells_in (x ∷ l) ≡ cells_in (x ∷ []) ++ cells_in l
cells_cons (OfCell c) l = refl
cells_cons (OfDock d) l = refl
cells_cons Away l = refl

docks_cons : (x : Slot) (l : List Slot) → docks_in (x ∷ l) ≡ docks_in (x ∷ []) ++ docks_in l
docks_cons (OfCell c) l = refl
docks_cons (OfDock d) l = refl
docks_cons Away l = refl

cells_suc : (l : List Slot) (i : ℕ) (x : Slot) → get_elem? l i ≡ some x → cells_in (take (suc i) l) ≡ cells_in (take i l) ++ cells_in (x ∷ [])
cells_suc [] i x e = absurd (some-ne-none x (sym e))
cells_suc (y ∷ ys) zero x e = ap (λ (z : Slot). cells_in (z ∷ [])) (some-injective y x e)
cells_suc (y ∷ ys) (suc i) x e = cells_cons y (take (suc i) ys) ∙ ap (λ (l : List Cell). cells_in (y ∷ []) ++ l) (cells_suc ys i x e)
    ∙ (sym (append_assoc (cells_in (y ∷ [])) (cells_in (take i ys)) (cells_in (x ∷ []))) ∙ ap (λ (l : List Cell). l ++ cells_in (x ∷ [])) (sym (cells_cons y (take i ys))))

docks_suc : (l : List Slot) (i : ℕ) (x : Slot) → get_elem? l i ≡ some x → docks_in (take (suc i) l) ≡ docks_in (take i l) ++ docks_in (x ∷ [])
docks_suc [] i x e = absurd (some-ne-none x (sym e))
docks_suc (y ∷ ys) zero x e = ap (λ (z : Slot). docks_in (z ∷ [])) (some-injective y x e)
docks_suc (y ∷ ys) (suc i) x e = docks_cons y (take (suc i) ys) ∙ ap (λ (l : List Dock). docks_in (y ∷ []) ++ l) (docks_suc ys i x e)
    ∙ (sym (append_assoc (docks_in (y ∷ [])) (docks_in (take i ys)) (docks_in (x ∷ []))) ∙ ap (λ (l : List Dock). l ++ docks_in (x ∷ [])) (sym (docks_cons y (take i ys))))

pub cells_more : (l : List Slot) (i : ℕ) (x : Slot) → get_elem? l i ≡ some x → cells_in (take (i + 1) l) ≡ cells_in (take i l) ++ cells_in (x ∷ [])
cells_more l i x e = let is : i + 1 ≡ suc i = omega arith in ap (λ (n : ℕ). cells_in (take n l)) is ∙ cells_suc l i x e

pub docks_more : (l : List Slot) (i : ℕ) (x : Slot) → get_elem? l i ≡ some x → docks_in (take (i + 1) l) ≡ docks_in (take i l) ++ docks_in (x ∷ [])
docks_more l i x e = let is : i + 1 ≡ suc i = omega arith in ap (λ (n : ℕ). docks_in (take n l)) is ∙ docks_suc l i x e

pub cells_le : (l : List Slot) (n : ℕ) → length (cells_in (take n l)) ≤ length (cells_in l)
cells_le l zero = omega arith
cells_le [] (suc n) = omega arith
cells_le (OfCell c ∷ l) (suc n) = let h = cells_le l n in omega arith
cells_le (OfDock d ∷ l) (suc n) = cells_le l n
cells_le (Away ∷ l) (suc n) = cells_le l n

pub docks_le : (l : List Slot) (n : ℕ) → length (docks_in (take n l)) ≤ length (docks_in l)
docks_le l zero = omega arith
docks_le [] (suc n) = omega arith
docks_le (OfCell c ∷ l) (suc n) = docks_le l n
docks_le (OfDock d ∷ l) (suc n) = let h = docks_le l n in omega arith
docks_le (Away ∷ l) (suc n) = docks_le l n

freed_suc : (ds : List Done) (j : ℕ) → j < length ds → freed_all (take (suc j) ds) ≡ freed_all (take j ds) ++ freed_by (done_or ds j)
freed_suc [] j h = absurd (omega arith)
freed_suc (d ∷ ds) zero h = append-nil (freed_by d)
freed_suc (d ∷ ds) (suc j) h = ap (λ (l : List ℕ). freed_by d ++ l) (freed_suc ds j (omega arith)) ∙ sym (append_assoc (freed_by d) (freed_all (take j ds)) (freed_by (done_or ds j)))

pub freed_more : (ds : List Done) (j : ℕ) → j < length ds → freed_all (take (j + 1) ds) ≡ freed_all (take j ds) ++ freed_by (done_or ds j)
freed_more ds j h = let is : j + 1 ≡ suc j = omega arith in ap (λ (n : ℕ). freed_all (take n ds)) is ∙ freed_suc ds j h

pub freed_le : (ds : List Done) (j : ℕ) → length (freed_all (take j ds)) ≤ length (freed_all ds)
freed_le ds zero = omega arith
freed_le [] (suc j) = omega arith
freed_le (d ∷ ds) (suc j) = omega (arith, freed_le ds j, length-append (freed_by d) (freed_all (take j ds)), length-append (freed_by d) (freed_all ds))

small_sum : (n a b t all cap : ℕ) → n ≡ a → t ≡ a + b → t ≤ all → all ≤ cap → n + b ≤ cap
small_sum n a b t all cap e f g h = omega arith

free_sum : (n n0 cap a a0 f b t all : ℕ) → n ≡ a → n0 ≡ a0 → a ≡ a0 + f → t ≡ f + b → t ≤ all → n0 + all ≤ cap → n + b ≤ cap
free_sum n n0 cap a a0 f b t all e e0 p q r h = omega arith

pub cell_room : (xs : List Slot) (i : ℕ) (x : Slot) (n cap : ℕ) → get_elem? xs i ≡ some x → n ≡ length (cells_in (take i xs)) → length (cells_in xs) ≤ cap → n + length (cells_in (x ∷ [])) ≤ cap
cell_room xs i x n cap at e h = let more = ap length (cells_more xs i x at) in let split = length-append (cells_in (take i xs)) (cells_in (x ∷ [])) in let le = cells_le xs (i + 1) in
    small_sum n (length (cells_in (take i xs))) (length (cells_in (x ∷ []))) (length (cells_in (take (i + 1) xs))) (length (cells_in xs)) cap e (more ∙ split) le h

pub dock_room : (xs : List Slot) (i : ℕ) (x : Slot) (n cap : ℕ) → get_elem? xs i ≡ some x → n ≡ length (docks_in (take i xs)) → length (docks_in xs) ≤ cap → n + length (docks_in (x ∷ [])) ≤ cap
dock_room xs i x n cap at e h = let more = ap length (docks_more xs i x at) in let split = length-append (docks_in (take i xs)) (docks_in (x ∷ [])) in let le = docks_le xs (i + 1) in
    small_sum n (length (docks_in (take i xs))) (length (docks_in (x ∷ []))) (length (docks_in (take (i + 1) xs))) (length (docks_in xs)) cap e (more ∙ split) le h

pub free_room : (ds : List Done) (j n n0 cap : ℕ) (l l0 : List ℕ) → j < length ds → n ≡ length l → n0 ≡ length l0 → l ≡ l0 ++ freed_all (take j ds) → n0 + length (freed_all ds) ≤ cap → n + length (freed_by (done_or ds j)) ≤ cap
free_room ds j n n0 cap l l0 lt e e0 is h =
    let len = ap length is ∙ length-append l0 (freed_all (take j ds)) in
    let more = ap length (freed_more ds j lt) ∙ length-append (freed_all (take j ds)) (freed_by (done_or ds j)) in let le = freed_le ds (j + 1) in
    free_sum n n0 cap (length l) (length l0) (length (freed_all (take j ds))) (length (freed_by (done_or ds j))) (length (freed_all (take (j + 1) ds))) (length (freed_all ds)) e e0 len more le h
