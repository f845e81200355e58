-- What is put into slots, and what lies in them.
use Rattle.std.proofs.Common.{cond, eqb, ◌≡◌, ℕ, ◌+◌, ◌<◌, ◌≤◌, List, [], ◌∷◌, length, set, sym, refl, ap, arith, subst, ◌∙◌, length-set, get_or-set_same, get_or-set_other}
use Rattle.std.specs.Prelude.{Option, None, Some, is_some}
use Rattle.fusion_core.specs.declared.board.job.Job.{Job}
use Rattle.fusion_core.specs.declared.board.job.Job.TheVariants.{Fresh, Stay, Enter, Leave, Check}
use Rattle.fusion_core.specs.declared.board.slot.Slot.{Slot}
use Rattle.fusion_core.specs.declared.board.slot.Slot.TheVariants.{OfCell, OfDock, Away}
use Rattle.fusion_core.specs.declared.board.dock.Dock.TheVariants.{Bare, Full}
use Rattle.fusion_core.specs.declared.board.work.Work.{Work}
use Rattle.block_heap.specs.declared.cell.Cell.TheVariants.{Free, Owned}
use Rattle.voxel_block.specs.declared.key.BlockKey.{BlockKey}
use mathlib.Core.Logic.{dite}
use native.Mathlib.Decide.{ℕ_discrete, dec_le}
use Rattle.fusion_core.specs.Jobs.{Start, slot_at, first_at, drawn_number, slots_held, left, said, drawn_for, draws, freshened, stayed, entered, departed}
use Rattle.fusion_core.specs.BoardStates.{Lie, kind, put}
use Rattle.fusion_core.specs.Counts.{count_of}
use Rattle.fusion_core.proofs.SumLemmas.{count_of-cons, same_test, no_test}
use Rattle.std.proofs.lemmas.Bool.{false≢true}

abbrev pub keys : List (ℕ × Slot) → List ℕ
keys [] = []
keys (p ∷ ps) = p.0 ∷ keys ps

pub put-length : (slots : List Slot) (ps : List (ℕ × Slot)) → length (put slots ps) ≡ length slots
put-length slots [] = refl
put-length slots (p ∷ ps) = put-length (set slots p.0 p.1) ps ∙ length-set slots p.0 p.1

pub put-other : (slots : List Slot) (ps : List (ℕ × Slot)) (k : ℕ) → count_of k (keys ps) ≡ 0 → slot_at (put slots ps) k ≡ slot_at slots k
put-other slots [] k h = refl
put-other slots (p ∷ ps) k h = let c = count_of-cons k p.0 (keys ps) in put-other (set slots p.0 p.1) ps k (omega arith) ∙ get_or-set_other slots p.0 k p.1 _ (λ e. absurd (let t = same_test p.0 k (sym e) in omega arith))

pub lie-put : (slots : List Slot) (ps : List (ℕ × Slot)) → ((k : ℕ) → count_of k (keys ps) ≤ 1) → ((k : ℕ) → 0 < count_of k (keys ps) → k < length slots) → Lie (put slots ps) ps
lie-put slots [] once inside = tt
lie-put slots (p ∷ ps) once inside =
    let cons : (k : ℕ) → count_of k (keys (p ∷ ps)) ≡ cond (eqb p.0 k) 1 0 + count_of k (keys ps) = λ k. count_of-cons k p.0 (keys ps) in let c = cons p.0 in
    let t = same_test p.0 p.0 refl in let o = once p.0 in let slots' : List Slot = set slots p.0 p.1 in
    let here : p.0 < length slots = inside p.0 (omega arith) in (
      put-other slots' ps p.0 (omega arith) ∙ get_or-set_same slots p.0 p.1 _ here,
      lie-put slots' ps (λ k. let u = once k in let v = cons k in omega arith) (λ k h. subst (λ (n : ℕ). k < n) (sym (length-set slots p.0 p.1)) (inside k (let v = cons k in omega arith))),
    )

pub lie-keep : (slots : List Slot) (ps qs : List (ℕ × Slot)) → Lie slots qs → ((k : ℕ) → 0 < count_of k (keys qs) → count_of k (keys ps) ≡ 0) → Lie (put slots ps) qs
lie-keep slots ps [] h apart = tt
lie-keep slots ps (q ∷ qs) h apart = (
  put-other slots ps q.0 (apart q.0 (let t = same_test q.0 q.0 refl in let c = count_of-cons q.0 q.0 (keys qs) in omega arith)) ∙ h.0,
  lie-keep slots ps qs h.1 (λ k more. apart k (let c = count_of-cons k q.0 (keys qs) in omega arith)),
)

-- what is left lies at what the job named and received
pub keys-left : (st : Start) (job : Job) (got : Option ℕ) → draws job ≡ is_some got → keys (left st job got) ≡ slots_held (length st.cells) job got
keys-left st (Fresh key) None e = absurd (false≢true (sym e))
keys-left st (Fresh key) (Some c) e = refl
keys-left st (Stay cell) None e = refl
keys-left st (Stay cell) (Some c) e = absurd (false≢true e)
keys-left st (Enter dock) None e = absurd (false≢true (sym e))
keys-left st (Enter dock) (Some c) e = refl
keys-left st (Leave cell dock) None e = refl
keys-left st (Leave cell dock) (Some c) e = absurd (false≢true e)
keys-left st (Check cell) None e = refl
keys-left st (Check cell) (Some c) e = absurd (false≢true e)

-- what is told names what was received
pub got-said : (st : Start) (job : Job) (got : Option ℕ) → draws job ≡ is_some got → drawn_for job (said st job got) ≡ got
got-said st (Fresh key) None e = absurd (false≢true (sym e))
got-said st (Fresh key) (Some c) e = refl
got-said st (Stay cell) None e = refl
got-said st (Stay cell) (Some c) e = absurd (false≢true e)
got-said st (Enter dock) None e = absurd (false≢true (sym e))
got-said st (Enter dock) (Some c) e = refl
got-said st (Leave cell dock) None e = refl
got-said st (Leave cell dock) (Some c) e = absurd (false≢true e)
got-said st (Check cell) None e = refl
got-said st (Check cell) (Some c) e = absurd (false≢true e)

-- ---- cells stay cells, and docks docks

abbrev Kinds : Start → List (ℕ × Slot) → Type 0
Kinds st [] = Unit {0}
Kinds st (p ∷ ps) = (kind p.1 ≡ kind (first_at st p.0)) × Kinds st ps

kind-freshened : (w : Work) (key : BlockKey) (s : Slot) → kind (freshened w key s) ≡ kind s
kind-freshened w key (OfCell (Free b)) = refl
kind-freshened w key (OfCell (Owned k b)) = refl
kind-freshened w key (OfDock d) = refl
kind-freshened w key Away = refl

kind-stayed : (w : Work) (s : Slot) → kind (stayed w s) ≡ kind s
kind-stayed w (OfCell (Free b)) = refl
kind-stayed w (OfCell (Owned k b)) = refl
kind-stayed w (OfDock d) = refl
kind-stayed w Away = refl

kind-entered : (w : Work) (s t : Slot) → (kind (entered w s t).0 ≡ kind s) × (kind (entered w s t).1 ≡ kind t)
kind-entered w (OfCell (Free b)) (OfDock (Full k p)) = (refl, refl)
kind-entered w (OfCell (Free b)) (OfDock (Bare p)) = (refl, refl)
kind-entered w (OfCell (Free b)) (OfCell c) = (refl, refl)
kind-entered w (OfCell (Free b)) Away = (refl, refl)
kind-entered w (OfCell (Owned k b)) t = (refl, refl)
kind-entered w (OfDock d) t = (refl, refl)
kind-entered w Away t = (refl, refl)

kind-departed : (s t : Slot) → (kind (departed s t).0 ≡ kind s) × (kind (departed s t).1 ≡ kind t)
kind-departed (OfCell (Owned k b)) (OfDock (Bare p)) = (refl, refl)
kind-departed (OfCell (Owned k b)) (OfDock (Full l p)) = (refl, refl)
kind-departed (OfCell (Owned k b)) (OfCell c) = (refl, refl)
kind-departed (OfCell (Owned k b)) Away = (refl, refl)
kind-departed (OfCell (Free b)) t = (refl, refl)
kind-departed (OfDock d) t = (refl, refl)
kind-departed Away t = (refl, refl)

kinds-left : (st : Start) (job : Job) (got : Option ℕ) → Kinds st (left st job got)
kinds-left st (Fresh key) got = (kind-freshened st.work key _, tt)
kinds-left st (Stay cell) got = (kind-stayed st.work _, tt)
kinds-left st (Enter dock) got = let e = kind-entered st.work (first_at st (drawn_number got)) (first_at st (length st.cells + dock)) in (e.0, (e.1, tt))
kinds-left st (Leave cell dock) got = let e = kind-departed (first_at st cell) (first_at st (length st.cells + dock)) in (e.1, (e.0, tt))
kinds-left st (Check cell) got = (refl, tt)

kind-lie : (st : Start) (slots : List Slot) (ps : List (ℕ × Slot)) (k : ℕ) → Lie slots ps → Kinds st ps → 0 < count_of k (keys ps) → kind (slot_at slots k) ≡ kind (first_at st k)
kind-lie st slots [] k l h more = absurd (omega arith)
kind-lie st slots (p ∷ ps) k l h more = dite (ℕ_discrete p.0 k)
    (λ e. ap (λ (i : ℕ). kind (slot_at slots i)) (sym e) ∙ ap kind l.0 ∙ h.0 ∙ ap (λ (i : ℕ). kind (first_at st i)) e)
    (λ ne. kind-lie st slots ps k l.1 h.1 (let z = no_test p.0 k ne in let c = count_of-cons k p.0 (keys ps) in omega arith))

-- what is put keeps the kinds
pub kinds-put : (st : Start) (slots : List Slot) (job : Job) (got : Option ℕ) (k : ℕ) → Lie (put slots (left st job got)) (left st job got)
    → kind (slot_at slots k) ≡ kind (first_at st k) → kind (slot_at (put slots (left st job got)) k) ≡ kind (first_at st k)
kinds-put st slots job got k lies was = dite (dec_le 1 (count_of k (keys (left st job got))))
    (λ more. kind-lie st (put slots (left st job got)) (left st job got) k lies (kinds-left st job got) (omega arith))
    (λ no. ap kind (put-other slots (left st job got) k (omega arith)) ∙ was)
