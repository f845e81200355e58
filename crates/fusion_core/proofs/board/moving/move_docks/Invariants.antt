use Rattle.std.proofs.Common.{◌≡◌, ◌+◌, ◌++◌, map}
use Rattle.std.specs.Prelude.{vec_len, reverse}
use Rattle.std.specs.Vec.{vec_capacity}
use Rattle.fusion_core.specs.declared.board.slot.Slot.TheVariants.{OfDock}
use Rattle.fusion_core.proofs.board.moving.move_docks.Given as goal

abbrev pub invariant-loop-dock : goal.invariant-loop-dock
invariant-loop-dock l = (l.slots.items ++ map OfDock (reverse l.docks.items) ≡ l.fn.slots.items ++ map OfDock l.fn.docks.items)
    × (vec_len l.slots + vec_len l.docks ≡ vec_len l.fn.slots + vec_len l.fn.docks)
    × (vec_capacity l.docks ≡ vec_capacity l.fn.docks) × (vec_capacity l.slots ≡ vec_capacity l.fn.slots)

abbrev pub decreases-loop-dock : goal.decreases-loop-dock
decreases-loop-dock l = vec_len l.docks
