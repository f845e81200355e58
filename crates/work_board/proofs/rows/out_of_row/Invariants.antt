use Rattle.std.proofs.Common.{◌≡◌, ◌+◌, ◌++◌, length}
use Rattle.std.specs.Prelude.{vec_len, reverse}
use Rattle.std.specs.Vec.{vec_capacity}
use Rattle.work_board.specs.Rows.{cells_in, docks_in}
use Rattle.work_board.proofs.rows.out_of_row.Given as goal

abbrev pub invariant-loop-slot : goal.invariant-loop-slot
invariant-loop-slot l = (l.cells.items ++ cells_in (reverse l.slots.items) ≡ cells_in l.fn.slots.items)
    × (l.docks.items ++ docks_in (reverse l.slots.items) ≡ docks_in l.fn.slots.items)
    × (vec_len l.cells + length (cells_in (reverse l.slots.items)) ≡ length (cells_in l.fn.slots.items))
    × (vec_len l.docks + length (docks_in (reverse l.slots.items)) ≡ length (docks_in l.fn.slots.items))
    × (vec_capacity l.cells ≡ vec_capacity l.fn.cells) × (vec_capacity l.docks ≡ vec_capacity l.fn.docks)

abbrev pub decreases-loop-slot : goal.decreases-loop-slot
decreases-loop-slot l = vec_len l.slots
