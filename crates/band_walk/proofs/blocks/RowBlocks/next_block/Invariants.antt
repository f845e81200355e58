use Rattle.std.proofs.Common.{◌≡◌, ◌-◌}
use Rattle.band_walk.specs.Remaining.{IsRowBlocks, remaining_blocks}
use Rattle.band_walk.proofs.blocks.RowBlocks.next_block.Given as goal

-- the remaining blocks are the same
abbrev pub invariant-loop-key : goal.invariant-loop-key
invariant-loop-key l = record {
  in_order : IsRowBlocks l.self;
  remaining : remaining_blocks l.self ≡ remaining_blocks l.fn.self;
}

abbrev pub decreases-loop-key : goal.decreases-loop-key
decreases-loop-key l = l.self.band.now.frame.now.width - l.self.u
