-- When a board is ready for its work.
use Rattle.std.specs.Prelude.{◌≡◌, ℕ, ◌<◌, ◌≤◌, ◌^◌, true, List, length, count_by, sum_by}
use Rattle.voxel_block.specs.declared.key.BlockKey.{BlockKey}
use Rattle.voxel_block.specs.declared.voxel.Voxel.{Voxel}
use Rattle.voxel_block.specs.Packing.{packed, IsBlock, IsKey}
use Rattle.block_heap.specs.Cells.{is_free_at}
use Rattle.block_heap.specs.declared.cell.Cell.TheVariants.{Owned}
use Rattle.fuse_kernel.specs.Updates.{HasWeightsWithin}
use Rattle.fusion_core.specs.declared.board.dock.Dock.TheVariants.{Bare, Full}
use Rattle.fusion_core.specs.declared.board.job.Job.{Job}
use Rattle.fusion_core.specs.declared.board.job.Job.TheVariants.{Fresh, Stay, Enter, Leave, Check}
use Rattle.fusion_core.specs.declared.board.slot.Slot.TheVariants.{OfCell, OfDock}
use Rattle.fusion_core.specs.Counts.{count_of}
use Rattle.fusion_core.specs.Jobs.{Start, dock_slot, draws, first_at, job_at, names}
use Rattle.fusion_core.specs.Works.{IsFuse, IsWork, greatest_weight}

-- the slot is a cell with the block of some key
abbrev pub HoldsOwned : Start → ℕ → Type 0
HoldsOwned st k = (key : BlockKey) × (block : List Voxel) × (first_at st k ≡ OfCell (Owned key block))

-- the slot is a dock without a block
abbrev pub HoldsBare : Start → ℕ → Type 0
HoldsBare st k = (p : List ℕ) × (first_at st k ≡ OfDock (Bare p))

-- these bytes are the packed block of a key, of which no voxel weighs more than n
pub record IsPackedBlock (n : ℕ) (key : BlockKey) (p : List ℕ) : Type 0 where
  pub block : List Voxel
  pub form : p ≡ packed key block
  pub is_key : IsKey key
  pub is_block : IsBlock block
  pub weights : HasWeightsWithin n block

-- the slot is a dock with the packed block of its key, of which no voxel weighs too much for the work
abbrev pub HoldsFull : Start → ℕ → Type 0
HoldsFull st k = (key : BlockKey) × (p : List ℕ) × (first_at st k ≡ OfDock (Full key p)) × IsPackedBlock (greatest_weight st.work) key p

-- a job finds what it names, and the work suits it
abbrev pub IsSuited : Start → Job → Type 0
IsSuited st (Fresh key) = IsFuse st.work
IsSuited st (Stay cell) = (cell < length st.cells) × HoldsOwned st cell × IsFuse st.work
IsSuited st (Enter dock) = HoldsFull st (dock_slot st dock)
IsSuited st (Leave cell dock) = (cell < length st.cells) × HoldsOwned st cell × HoldsBare st (dock_slot st dock)
IsSuited st (Check cell) = (cell < length st.cells) × HoldsOwned st cell

-- how many jobs draw a free cell
abbrev pub draw_count : List Job → ℕ
draw_count jobs = count_by draws jobs

-- how often the jobs name a slot
abbrev pub name_count : Start → (k : ℕ) → List Job → ℕ
name_count st k jobs = sum_by (λ job. count_of k (names (length st.cells) job)) jobs

-- a board is ready for its work
pub record IsReady (st : Start) : Type 0 where
  pub few_jobs : length st.jobs < 2 ^ 32
  pub few_cells : length st.cells < 2 ^ 32
  pub few_docks : length st.docks < 2 ^ 32
  -- the free list has different numbers of free cells
  pub distinct : (c : ℕ) → count_of c st.free ≤ 1
  pub free : (c : ℕ) → 0 < count_of c st.free → is_free_at st.cells c ≡ true
  pub suited : (j : ℕ) → j < length st.jobs → IsSuited st (job_at st j)
  -- no cell and no dock is named twice
  pub apart : (k : ℕ) → name_count st k st.jobs ≤ 1
  pub enough : draw_count st.jobs ≤ length st.free
  pub is_work : IsWork st.work
  pub weight : 1 ≤ greatest_weight st.work
