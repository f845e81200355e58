use Rattle.std.proofs.Common.{◌≡◌, length}
use Rattle.std.specs.Slice.Iter.{iter_rest}
use Rattle.chunk_store.specs.Remaining.{remaining_in}
use Rattle.chunk_store.proofs.blocks.next_held.Given as goal

-- what the places hold that are still to come
abbrev pub invariant-loop-key : goal.invariant-loop-key
invariant-loop-key l = remaining_in l.places ≡ remaining_in l.fn.places

abbrev pub decreases-loop-key : goal.decreases-loop-key
decreases-loop-key l = length (iter_rest l.places)
