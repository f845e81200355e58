-- What contracts see of the fields of a board's machine.
use Rattle.std.specs.Prelude.{◌≡◌, length}
use Rattle.fusion_core.specs.declared.board.machine.Core.TheInside.{Inside}
use Rattle.fusion_core.specs.BoardStates.{BoardState, IsWhole}
use Rattle.fusion_core.specs.Machines.{start_of, state_of}

-- the state with these fields
abbrev pub core_view : Inside → BoardState
core_view c = state_of (start_of c.jobs.items c.cells.value.items c.docks.value.items c.free.items c.work.value) c.slots.items c.next c.cursor c.hands.items c.done.items

-- what holds of the fields: the board is whole, and the machine knows how many cells it has
abbrev pub IsCore : Inside → Type 0
IsCore c = IsWhole (core_view c) × (c.cell_count ≡ length c.cells.value.items)
