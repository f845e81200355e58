-- What each kind of job ends in.
use Rattle.std.proofs.Common.{◌≡◌, ℕ, zero, suc, ◌<◌, ◌≤◌, List, [], ◌∷◌, length, sym, refl, ap, arith, ◌∙◌, true}
use Rattle.std.specs.Prelude.{is_some}
use Rattle.std.proofs.lemmas.Bool.{false≢true}
use Rattle.voxel_block.specs.declared.voxel.Voxel.{Voxel}
use Rattle.voxel_block.specs.Packing.{voxels_in}
use Rattle.voxel_block.proofs.Packing.{voxels_in-packed}
use Rattle.block_heap.specs.declared.cell.Cell.{Cell}
use Rattle.block_heap.specs.declared.cell.Cell.TheVariants.{Free, Owned}
use Rattle.block_heap.specs.Cells.{is_free_at}
use Rattle.fusion_core.specs.declared.board.dock.Dock.{Dock}
use Rattle.fusion_core.specs.declared.board.dock.Dock.TheVariants.{Bare, Full}
use Rattle.fusion_core.specs.declared.board.done.Done.{Done}
use Rattle.fusion_core.specs.declared.board.done.Done.TheVariants as done
use Rattle.fusion_core.specs.declared.board.job.Job.{Job}
use Rattle.fusion_core.specs.declared.board.job.Job.TheVariants.{Fresh, Stay, Enter, Leave, Check}
use Rattle.fusion_core.specs.declared.board.slot.Slot.{Slot}
use Rattle.fusion_core.specs.declared.board.slot.Slot.TheVariants.{OfCell, OfDock}
use Rattle.fusion_core.specs.Jobs.{Start, departed, dock_slot, drawn_for, drawn_list, draws, entered, first_at, freshened, job_at, left, said, slot_at, slots_of, stayed, summary_at}
use Rattle.fusion_core.specs.Boards.{IsReady, IsSuited}
use Rattle.fusion_core.specs.BoardStates.{IsResult, Lie}
use Rattle.fusion_core.specs.BoardEnds.{End, HasEnded, last_slots}
use Rattle.fusion_core.specs.Counts.{count_of}
use Rattle.fusion_core.specs.Works.{updated_by}
use Rattle.fusion_core.proofs.SumLemmas.{same_test}

-- a cell that is free at the start lies in the row
pub free_held : (cells : List Cell) (docks : List Dock) (c : ℕ) → is_free_at cells c ≡ true → (block : List Voxel) × (slot_at (slots_of cells docks) c ≡ OfCell (Free block))
free_held [] docks c e = absurd (false≢true e)
free_held (Free b ∷ xs) docks zero e = (b, refl)
free_held (Owned k b ∷ xs) docks zero e = absurd (false≢true e)
free_held (x ∷ xs) docks (suc c) e = free_held xs docks c e

some_more : (c : ℕ) → 0 < count_of c (c ∷ [])
some_more c = let t = same_test c c refl in omega arith

ended : (st : Start) (e : End) (job : Job) (d : Done) → IsReady st → IsSuited st job → draws job ≡ is_some (drawn_for job d) → d ≡ said st job (drawn_for job d)
    → Lie (last_slots e) (left st job (drawn_for job d)) → ((c : ℕ) → count_of c (drawn_list (drawn_for job d)) ≤ count_of c st.free) → HasEnded st e job d
ended st e (Fresh key) (done.Cell c) r s wants told lies from =
    let more : 0 < count_of c st.free = let a = from c in let b = some_more c in omega arith in
    let held = free_held st.cells st.docks c (r.free c more) in
    (c, more, lies.0 ∙ ap (freshened st.work key) held.1, refl)
ended st e (Fresh key) (done.Freed c) r s wants told lies from = absurd (false≢true (sym wants))
ended st e (Fresh key) (done.Looked x) r s wants told lies from = absurd (false≢true (sym wants))
ended st e (Stay cell) d r s wants told lies from = (s.1.0, s.1.1, s.1.2, lies.0 ∙ ap (stayed st.work) s.1.2, told)
ended st e (Enter dock) (done.Cell c) r s wants told lies from =
    let more : 0 < count_of c st.free = let a = from c in let b = some_more c in omega arith in
    let held = free_held st.cells st.docks c (r.free c more) in let p = s.3 in
    let at : first_at st (dock_slot st dock) ≡ OfDock (Full s.0 s.1) = s.2 in
    let both = ap (entered st.work (first_at st c)) at ∙ ap (λ (x : Slot). entered st.work x (OfDock (Full s.0 s.1))) held.1 in
    let voxels : voxels_in s.1 ≡ p.block = ap voxels_in p.form ∙ voxels_in-packed s.0 p.block p.is_block in (
      s.0,
      p.block,
      at ∙ ap (λ x. OfDock (Full s.0 x)) p.form,
      p.is_block,
      (c, more, lies.0 ∙ ap (λ (q : Slot × Slot). q.0) both ∙ ap (λ x. OfCell (Owned s.0 (updated_by st.work s.0 x))) voxels, refl),
      (_, lies.1.0 ∙ ap (λ (q : Slot × Slot). q.1) both),
    )
ended st e (Enter dock) (done.Freed c) r s wants told lies from = absurd (false≢true (sym wants))
ended st e (Enter dock) (done.Looked x) r s wants told lies from = absurd (false≢true (sym wants))
ended st e (Leave cell dock) d r s wants told lies from =
    let both = ap (departed (first_at st cell)) s.2.1 ∙ ap (λ (x : Slot). departed x (OfDock (Bare s.2.0))) s.1.2 in
    (s.1.0, s.1.1, s.1.2, (_, lies.1.0 ∙ ap (λ (q : Slot × Slot). q.0) both), lies.0 ∙ ap (λ (q : Slot × Slot). q.1) both, told)
ended st e (Check cell) d r s wants told lies from = (s.1.0, s.1.1, s.1.2, lies.0 ∙ s.1.2, told ∙ ap (λ (x : Slot). done.Looked (summary_at x)) s.1.2)

-- a job whose slots lie as it left them has ended, where a cell that was drawn for it was free at the start
pub has_ended : (st : Start) (e : End) (j : ℕ) (d : Done) → IsReady st → j < length st.jobs → IsResult st (last_slots e) j d
    → ((c : ℕ) → count_of c (drawn_list (drawn_for (job_at st j) d)) ≤ count_of c st.free) → HasEnded st e (job_at st j) d
has_ended st e j d ready lt r from = ended st e (job_at st j) d ready (ready.suited j lt) r.drawn r.said r.lie from
