-- How a board is closed.
use Rattle.std.specs.Prelude.{◌≡◌, ℕ, ◌+◌, ◌<◌, Some, List, [], ◌∷◌, ◌++◌, length, slice_index_or}
use mathlib.Core.Option.{some}
use lib.ListN.{get_elem?}
use Rattle.fusion_core.specs.declared.board.done.Done.{Done}
use Rattle.fusion_core.specs.declared.board.done.Done.TheVariants as done
use Rattle.fusion_core.specs.BoardEnds.{End}
use Rattle.fusion_core.specs.BoardStates.{below}
use Rattle.fusion_core.specs.Counts.{count_of}
use Rattle.fusion_core.specs.Jobs.{Start}
use Rattle.work_board.specs.declared.board_end.BoardEnd.{BoardEnd}
use Rattle.work_board.specs.Rule.{code, FitsWord}

-- what a board gave back, as definitions speak of it
abbrev pub end_of : BoardEnd → End
end_of e = record { cells = e.cells.items; docks = e.docks.items; free = e.free.items; done = e.done.items }

-- each job of the board is in the list once, and no other number is
abbrev pub HasEachOnce : Start → List ℕ → Type 0
HasEachOnce st did = (j : ℕ) → count_of j did ≡ below j (length st.jobs)

-- ---- what is read from the words

-- the cell that an answer states to be free
abbrev pub freed_by : Done → List ℕ
freed_by (done.Cell c) = []
freed_by (done.Freed c) = c ∷ []
freed_by (done.Looked s) = []

-- the cells that answers state to be free
abbrev pub freed_all : List Done → List ℕ
freed_all [] = []
freed_all (d ∷ ds) = freed_by d ++ freed_all ds

-- the answer of a number, and any answer past the end
abbrev pub done_or : List Done → ℕ → Done
done_or ds j = slice_index_or ds j (done.Cell 0)

-- the words are those of these answers
pub record AreAnswers (count : ℕ) (ws : List ℕ) (ds : List Done) : Type 0 where
  pub as_many : length ds ≡ count
  pub fits : (j : ℕ) → j < count → FitsWord (done_or ds j)
  pub word : (j : ℕ) → j < count → get_elem? ws (j + 2) ≡ some (code (Some (done_or ds j)))
