use Rattle.std.proofs.Common.{◌≡◌, ◌+◌, ◌++◌, map}
use Rattle.std.specs.Prelude.{vec_len, reverse}
use Rattle.std.specs.Vec.{vec_capacity}
use Rattle.fusion_core.specs.declared.board.slot.Slot.TheVariants.{OfCell}
use Rattle.fusion_core.proofs.board.moving.move_cells.Given as goal

abbrev pub invariant-loop-cell : goal.invariant-loop-cell
invariant-loop-cell l = (l.slots.items ++ map OfCell (reverse l.cells.items) ≡ l.fn.slots.items ++ map OfCell l.fn.cells.items)
    × (vec_len l.slots + vec_len l.cells ≡ vec_len l.fn.slots + vec_len l.fn.cells)
    × (vec_capacity l.cells ≡ vec_capacity l.fn.cells) × (vec_capacity l.slots ≡ vec_capacity l.fn.slots)

abbrev pub decreases-loop-cell : goal.decreases-loop-cell
decreases-loop-cell l = vec_len l.cells
