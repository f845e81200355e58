use Rattle.std.proofs.Common.{◌≡◌, ℕ, ◌<◌, ◌≤◌, length, take, false, true}
use Rattle.std.specs.Prelude.{slice_index_or, vec_len}
use Rattle.std.specs.Vec.{vec_capacity}
use Rattle.std.specs.Slots.{slots_items, slots_filled, slots_len}
use Rattle.work_board.specs.Rows.{cells_in, docks_in}
use Rattle.work_board.proofs.taking.take_slots.Given as goal

abbrev pub invariant-loop-i : goal.invariant-loop-i
invariant-loop-i l = (l.cells.items ≡ cells_in (take l.i (slots_items l.fn.closed.slots))) × (l.docks.items ≡ docks_in (take l.i (slots_items l.fn.closed.slots)))
    × (vec_len l.cells ≡ length (cells_in (take l.i (slots_items l.fn.closed.slots)))) × (vec_len l.docks ≡ length (docks_in (take l.i (slots_items l.fn.closed.slots))))
    × (vec_capacity l.cells ≡ vec_capacity l.fn.cells) × (vec_capacity l.docks ≡ vec_capacity l.fn.docks)
    × (slots_items l.closed.slots ≡ slots_items l.fn.closed.slots) × (slots_len l.closed.slots ≡ slots_len l.fn.closed.slots) × (l.closed.words ≡ l.fn.closed.words)
    × ((k : ℕ) → k < l.i → slice_index_or (slots_filled l.closed.slots) k false ≡ false) × ((k : ℕ) → l.i ≤ k → k < l.count → slice_index_or (slots_filled l.closed.slots) k false ≡ true)
