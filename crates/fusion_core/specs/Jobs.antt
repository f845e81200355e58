-- The jobs of a board: what each names, what it makes of its cell and its dock, and what is known of it when it is done.
use Rattle.std.specs.Prelude.{ℕ, ◌+◌, Bool, true, false, Option, None, Some, List, [], ◌∷◌, ◌++◌, map, length, slice_index_or}
use Rattle.voxel_block.specs.declared.key.BlockKey.{BlockKey}
use Rattle.voxel_block.specs.declared.summary.Summary.{Summary}
use Rattle.voxel_block.specs.Blocks.{new_block}
use Rattle.voxel_block.specs.Packing.{packed, voxels_in}
use Rattle.voxel_block.specs.Summaries.{summary_of}
use Rattle.block_heap.specs.declared.cell.Cell.{Cell}
use Rattle.block_heap.specs.declared.cell.Cell.TheVariants.{Free, Owned}
use Rattle.fusion_core.specs.declared.board.dock.Dock.{Dock}
use Rattle.fusion_core.specs.declared.board.dock.Dock.TheVariants.{Bare, Full}
use Rattle.fusion_core.specs.declared.board.done.Done.{Done}
use Rattle.fusion_core.specs.declared.board.done.Done.TheVariants as done
use Rattle.fusion_core.specs.declared.board.job.Job.{Job}
use Rattle.fusion_core.specs.declared.board.job.Job.TheVariants.{Fresh, Stay, Enter, Leave, Check}
use Rattle.fusion_core.specs.declared.board.slot.Slot.{Slot}
use Rattle.fusion_core.specs.declared.board.slot.Slot.TheVariants.{OfCell, OfDock, Away}
use Rattle.fusion_core.specs.declared.board.work.Work.{Work}
use Rattle.fusion_core.specs.Works.{updated_by}

-- a board as it was made; the free numbers stand in the order in which they are drawn
pub record Start : Type 0 where
  pub jobs : List Job
  pub cells : List Cell
  pub docks : List Dock
  pub free : List ℕ
  pub work : Work

-- ---- cells and docks in one row

-- cells and docks in one row of slots, the cells first
abbrev pub slots_of : List Cell → List Dock → List Slot
slots_of cells docks = map OfCell cells ++ map OfDock docks

-- the slot of a number, none past the end
abbrev pub slot_at : List Slot → ℕ → Slot
slot_at slots k = slice_index_or slots k Away

-- the slot of a number as the board was made
abbrev pub first_at : Start → ℕ → Slot
first_at st k = slot_at (slots_of st.cells st.docks) k

-- the number of a dock's slot, which follows those of the cells
abbrev pub dock_slot : Start → (dock : ℕ) → ℕ
dock_slot st dock = length st.cells + dock

-- ---- what a job names

-- the job of a number, and any job past the end
abbrev pub job_at : Start → ℕ → Job
job_at st j = slice_index_or st.jobs j (Check 0)

-- the numbers of the slots that a job names, on a board of n cells
abbrev pub names : (n : ℕ) → Job → List ℕ
names n (Fresh key) = []
names n (Stay cell) = cell ∷ []
names n (Enter dock) = (n + dock) ∷ []
names n (Leave cell dock) = (n + dock) ∷ cell ∷ []
names n (Check cell) = cell ∷ []

-- whether a job draws a free cell
abbrev pub draws : Job → Bool
draws (Fresh key) = true
draws (Stay cell) = false
draws (Enter dock) = true
draws (Leave cell dock) = false
draws (Check cell) = false

-- a cell that was drawn, as a list
abbrev pub drawn_list : Option ℕ → List ℕ
drawn_list None = []
drawn_list (Some c) = c ∷ []

-- the number of a cell that was drawn, and 0 where none was
abbrev pub drawn_number : Option ℕ → ℕ
drawn_number None = 0
drawn_number (Some c) = c

-- the numbers of a job's slots: the cell that was drawn, and those that it names
abbrev pub slots_held : (n : ℕ) → Job → (drawn : Option ℕ) → List ℕ
slots_held n job drawn = drawn_list drawn ++ names n job

-- ---- what a job makes of its cell and of its dock

-- a free cell becomes the key's, with new voxels that are updated
abbrev pub freshened : Work → BlockKey → Slot → Slot
freshened w key (OfCell (Free block)) = OfCell (Owned key (updated_by w key new_block))
freshened w key (OfCell (Owned k block)) = OfCell (Owned k block)
freshened w key (OfDock dock) = OfDock dock
freshened w key Away = Away

-- the block of an owned cell is updated
abbrev pub stayed : Work → Slot → Slot
stayed w (OfCell (Free block)) = OfCell (Free block)
stayed w (OfCell (Owned key block)) = OfCell (Owned key (updated_by w key block))
stayed w (OfDock dock) = OfDock dock
stayed w Away = Away

-- a free cell gets the block of a full dock, updated, and the dock is bare
abbrev pub entered : Work → (cell dock : Slot) → Slot × Slot
entered w (OfCell (Free block)) (OfDock (Full key p)) = (OfCell (Owned key (updated_by w key (voxels_in p))), OfDock (Bare p))
entered w (OfCell (Free block)) (OfDock (Bare p)) = (OfCell (Free block), OfDock (Bare p))
entered w (OfCell (Free block)) (OfCell c) = (OfCell (Free block), OfCell c)
entered w (OfCell (Free block)) Away = (OfCell (Free block), Away)
entered w (OfCell (Owned k block)) s = (OfCell (Owned k block), s)
entered w (OfDock d) s = (OfDock d, s)
entered w Away s = (Away, s)

-- a bare dock gets the block of an owned cell, packed, and the cell is free
abbrev pub departed : (cell dock : Slot) → Slot × Slot
departed (OfCell (Owned key block)) (OfDock (Bare p)) = (OfCell (Free block), OfDock (Full key (packed key block)))
departed (OfCell (Owned key block)) (OfDock (Full k p)) = (OfCell (Owned key block), OfDock (Full k p))
departed (OfCell (Owned key block)) (OfCell c) = (OfCell (Owned key block), OfCell c)
departed (OfCell (Owned key block)) Away = (OfCell (Owned key block), Away)
departed (OfCell (Free block)) s = (OfCell (Free block), s)
departed (OfDock d) s = (OfDock d, s)
departed Away s = (Away, s)

-- what a job makes of its cell and of its dock; a job without a dock leaves that as it is
abbrev pub result_of : Work → Job → (cell dock : Slot) → Slot × Slot
result_of w (Fresh key) cell dock = (freshened w key cell, dock)
result_of w (Stay c) cell dock = (stayed w cell, dock)
result_of w (Enter d) cell dock = entered w cell dock
result_of w (Leave c d) cell dock = departed cell dock
result_of w (Check c) cell dock = (cell, dock)

-- the summary of the block in a cell
abbrev pub summary_at : Slot → Summary
summary_at (OfCell (Owned key block)) = summary_of block
summary_at (OfCell (Free block)) = summary_of block
summary_at (OfDock d) = record { known = 0; least = 0 }
summary_at Away = record { known = 0; least = 0 }

-- ---- a job that is done

-- the slots of a job of the board, each with its number, when it is done
abbrev pub left : Start → Job → (drawn : Option ℕ) → List (ℕ × Slot)
left st (Fresh key) drawn = let c : ℕ = drawn_number drawn in (c, (result_of st.work (Fresh key) (first_at st c) Away).0) ∷ []
left st (Stay cell) drawn = (cell, (result_of st.work (Stay cell) (first_at st cell) Away).0) ∷ []
left st (Enter dock) drawn = let c : ℕ = drawn_number drawn in let d : ℕ = dock_slot st dock in let both : Slot × Slot = result_of st.work (Enter dock) (first_at st c) (first_at st d) in
    (c, both.0) ∷ (d, both.1) ∷ []
left st (Leave cell dock) drawn = let d : ℕ = dock_slot st dock in let both : Slot × Slot = result_of st.work (Leave cell dock) (first_at st cell) (first_at st d) in
    (d, both.1) ∷ (cell, both.0) ∷ []
left st (Check cell) drawn = (cell, (result_of st.work (Check cell) (first_at st cell) Away).0) ∷ []

-- what is known of a job of the board when it is done
abbrev pub said : Start → Job → (drawn : Option ℕ) → Done
said st (Fresh key) drawn = done.Cell (drawn_number drawn)
said st (Stay cell) drawn = done.Cell cell
said st (Enter dock) drawn = done.Cell (drawn_number drawn)
said st (Leave cell dock) drawn = done.Freed cell
said st (Check cell) drawn = done.Looked (summary_at (first_at st cell))

-- the cell that the answer of a job names as its block's
abbrev pub cell_said : Done → Option ℕ
cell_said (done.Cell c) = Some c
cell_said (done.Freed c) = None
cell_said (done.Looked s) = None

-- the cell that was drawn for a job that is done, by its answer
abbrev pub drawn_for : Job → Done → Option ℕ
drawn_for (Fresh key) d = cell_said d
drawn_for (Stay cell) d = None
drawn_for (Enter dock) d = cell_said d
drawn_for (Leave cell dock) d = None
drawn_for (Check cell) d = None
