-- The cells and the docks in a row of slots.
use Rattle.std.specs.Prelude.{List, [], ◌∷◌}
use Rattle.block_heap.specs.declared.cell.Cell.{Cell}
use Rattle.fusion_core.specs.declared.board.dock.Dock.{Dock}
use Rattle.fusion_core.specs.declared.board.slot.Slot.{Slot}
use Rattle.fusion_core.specs.declared.board.slot.Slot.TheVariants.{OfCell, OfDock, Away}

abbrev pub cells_in : List Slot → List Cell
cells_in [] = []
cells_in (OfCell c ∷ s) = c ∷ cells_in s
cells_in (OfDock d ∷ s) = cells_in s
cells_in (Away ∷ s) = cells_in s

abbrev pub docks_in : List Slot → List Dock
docks_in [] = []
docks_in (OfCell c ∷ s) = docks_in s
docks_in (OfDock d ∷ s) = d ∷ docks_in s
docks_in (Away ∷ s) = docks_in s
