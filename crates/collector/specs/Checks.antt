-- Jobs that look at the blocks of a heap, and the cells that they found to be empty.
use Rattle.std.specs.Prelude.{ℕ, ℤ, pos, int_le, if◌then◌else◌, List, [], ◌∷◌}
use Rattle.std.specs.List.{enumerate_from, flat_map, zip}
use Rattle.block_heap.specs.declared.cell.Cell.{Cell}
use Rattle.block_heap.specs.declared.cell.Cell.TheVariants.{Free, Owned}
use Rattle.fusion_core.specs.declared.board.done.Done.{Done}
use Rattle.fusion_core.specs.declared.board.done.Done.TheVariants.{Looked}
use Rattle.fusion_core.specs.declared.board.job.Job.{Job}
use Rattle.fusion_core.specs.declared.board.job.Job.TheVariants.{Check}

-- a job that looks at the cell of number n, where it is owned
abbrev pub check_of : (n : ℕ) → Cell → List Job
check_of n (Free block) = []
check_of n (Owned key block) = Check n ∷ []

-- a job for each owned cell, in the order of their numbers
abbrev pub checks_of : List Cell → List Job
checks_of cells = flat_map (λ p. check_of p.0 p.1) (enumerate_from 0 cells)

-- the cell of a check, where its block is empty by the summary
abbrev pub empty_cell : (empty_f : ℤ) → Job → Done → List ℕ
empty_cell empty_f (Check cell) (Looked summary) = if int_le empty_f (pos summary.least) then cell ∷ [] else []
empty_cell empty_f job answer = []

-- the cells of the checks whose blocks are empty, in the order of the jobs
abbrev pub empty_cells_of : (empty_f : ℤ) → List Job → List Done → List ℕ
empty_cells_of empty_f jobs answers = flat_map (λ p. empty_cell empty_f p.0 p.1) (zip jobs answers)
