-- How a board ends, whatever the order of its jobs was.
use Rattle.std.specs.Prelude.{◌≡◌, ℕ, ◌+◌, ◌<◌, ◌≤◌, ◌==◌, drop, if◌then◌else◌, Option, Some, List, map, length, sum_by}
use Rattle.voxel_block.specs.declared.key.BlockKey.{BlockKey}
use Rattle.voxel_block.specs.declared.voxel.Voxel.{Voxel}
use Rattle.voxel_block.specs.Blocks.{new_block}
use Rattle.voxel_block.specs.Packing.{packed, IsBlock}
use Rattle.voxel_block.specs.Summaries.{summary_of}
use Rattle.block_heap.specs.declared.cell.Cell.{Cell}
use Rattle.block_heap.specs.declared.cell.Cell.TheVariants.{Free, Owned}
use Rattle.fusion_core.specs.declared.board.dock.Dock.{Dock}
use Rattle.fusion_core.specs.declared.board.dock.Dock.TheVariants.{Bare, Full}
use Rattle.fusion_core.specs.declared.board.done.Done.{Done}
use Rattle.fusion_core.specs.declared.board.done.Done.TheVariants as done
use Rattle.fusion_core.specs.declared.board.job.Job.{Job}
use Rattle.fusion_core.specs.declared.board.job.Job.TheVariants.{Fresh, Stay, Enter, Leave, Check}
use Rattle.fusion_core.specs.declared.board.slot.Slot.{Slot}
use Rattle.fusion_core.specs.declared.board.slot.Slot.TheVariants.{OfCell, OfDock}
use Rattle.fusion_core.specs.BoardStates.{BoardState, done_at, drawn_count, touched_by}
use Rattle.fusion_core.specs.Counts.{count_of}
use Rattle.fusion_core.specs.Jobs.{Start, dock_slot, first_at, job_at, slot_at, slots_of}
use Rattle.fusion_core.specs.Works.{updated_by}

-- what a board gives back: its cells, its docks, the free numbers, and the answer of each job
pub record End : Type 0 where
  pub cells : List Cell
  pub docks : List Dock
  pub free : List ℕ
  pub done : List Done

-- the slots at the end
abbrev pub last_slots : End → List Slot
last_slots e = slots_of e.cells e.docks

-- the answers as those of jobs that are all done
abbrev pub all_done : List Done → List (Option Done)
all_done ds = map Some ds

-- how often an answer tells that the cell c is free
abbrev pub frees : (c : ℕ) → Done → ℕ
frees c (done.Cell i) = 0
frees c (done.Freed i) = if i == c then 1 else 0
frees c (done.Looked s) = 0

-- the slot is a cell that the key owns, with this block
abbrev pub IsOwnedBy : Slot → BlockKey → List Voxel → Type 0
IsOwnedBy s key block = s ≡ OfCell (Owned key block)

-- the slot is a free cell; what it has is open
abbrev pub IsFreed : Slot → Type 0
IsFreed s = (block : List Voxel) × (s ≡ OfCell (Free block))

-- the slot is a bare dock; what it has is open
abbrev pub IsBared : Slot → Type 0
IsBared s = (p : List ℕ) × (s ≡ OfDock (Bare p))

-- a cell that was free at the start is the key's with this block, and the answer names it; which one it is is open
abbrev pub HasDrawn : Start → End → Done → BlockKey → List Voxel → Type 0
HasDrawn st e d key block = (c : ℕ) × (0 < count_of c st.free) × IsOwnedBy (slot_at (last_slots e) c) key block × (d ≡ done.Cell c)

-- what a job ends in, with this answer
abbrev pub HasEnded : Start → End → Job → Done → Type 0
HasEnded st e (Fresh key) d = HasDrawn st e d key (updated_by st.work key new_block)
HasEnded st e (Stay cell) d = (key : BlockKey) × (block : List Voxel) × IsOwnedBy (first_at st cell) key block
    × IsOwnedBy (slot_at (last_slots e) cell) key (updated_by st.work key block) × (d ≡ done.Cell cell)
HasEnded st e (Enter dock) d = (key : BlockKey) × (block : List Voxel) × (first_at st (dock_slot st dock) ≡ OfDock (Full key (packed key block)))
    × IsBlock block × HasDrawn st e d key (updated_by st.work key block) × IsBared (slot_at (last_slots e) (dock_slot st dock))
HasEnded st e (Leave cell dock) d = (key : BlockKey) × (block : List Voxel) × IsOwnedBy (first_at st cell) key block
    × IsFreed (slot_at (last_slots e) cell) × (slot_at (last_slots e) (dock_slot st dock) ≡ OfDock (Full key (packed key block))) × (d ≡ done.Freed cell)
HasEnded st e (Check cell) d = (key : BlockKey) × (block : List Voxel) × IsOwnedBy (first_at st cell) key block
    × IsOwnedBy (slot_at (last_slots e) cell) key block × (d ≡ done.Looked (summary_of block))

-- all jobs of a board are done, each once, and nothing else changed
pub record Ends (st : Start) (e : End) : Type 0 where
  pub cell_count : length e.cells ≡ length st.cells
  pub dock_count : length e.docks ≡ length st.docks
  pub done_count : length e.done ≡ length st.jobs
  -- each job has ended
  pub ended : (j : ℕ) (d : Done) → j < length st.jobs → done_at (all_done e.done) j ≡ Some d → HasEnded st e (job_at st j) d
  -- a cell that was drawn for a job was free at the start, and was drawn for no other
  pub drawn_once : (c : ℕ) → drawn_count st.jobs (all_done e.done) c ≤ count_of c st.free
  -- the free numbers are, each once, those that no job drew, and the cells that were freed
  pub free : (c : ℕ) → count_of c e.free + drawn_count st.jobs (all_done e.done) c ≡ count_of c st.free + sum_by (frees c) e.done
  pub free_once : (c : ℕ) → count_of c e.free ≤ 1
  -- a cell or a dock that no job named or drew is as it was
  pub else_same : (k : ℕ) → ((j : ℕ) → count_of k (touched_by st j (done_at (all_done e.done) j)) ≡ 0) → slot_at (last_slots e) k ≡ first_at st k

-- what a board gives back where its machine has done all jobs: the free numbers in any order
pub record IsGiven (m : BoardState) (e : End) : Type 0 where
  pub slots : last_slots e ≡ m.slots
  pub cells : length e.cells ≡ length m.start.cells
  pub docks : length e.docks ≡ length m.start.docks
  pub done : all_done e.done ≡ m.done
  pub free : (c : ℕ) → count_of c e.free ≡ count_of c (drop m.cursor m.start.free) + sum_by (frees c) e.done
