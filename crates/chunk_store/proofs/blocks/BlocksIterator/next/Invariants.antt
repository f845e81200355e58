use Rattle.std.proofs.Common.{◌≡◌, ◌++◌, length}
use Rattle.chunk_store.specs.Remaining.{remaining_blocks, remaining_in}
use Rattle.chunk_store.specs.Store.{held_of}
use Rattle.chunk_store.proofs.blocks.BlocksIterator.next.Given as goal

-- what is still to come
abbrev pub invariant-loop-block : goal.invariant-loop-block
invariant-loop-block l = remaining_in l.self-inside.places ++ held_of l.self-inside.rows ≡ remaining_blocks l.fn.self

abbrev pub decreases-loop-block : goal.decreases-loop-block
decreases-loop-block l = length l.self-inside.rows
