use Rattle.std.proofs.Common.{◌≡◌, length}
use Rattle.band_walk.specs.Remaining.{IsRowBlocks, remaining_blocks, keys_after}
use Rattle.band_walk.proofs.blocks.next_key.Given as goal

-- the remaining keys are the same
abbrev pub invariant-loop-key : goal.invariant-loop-key
invariant-loop-key l = record {
  in_order : IsRowBlocks l.blocks;
  remaining : keys_after l.last (remaining_blocks l.blocks) ≡ keys_after l.fn.last (remaining_blocks l.fn.blocks);
}

abbrev pub decreases-loop-key : goal.decreases-loop-key
decreases-loop-key l = length (remaining_blocks l.blocks)
