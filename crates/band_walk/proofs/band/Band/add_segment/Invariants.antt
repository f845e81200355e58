use Rattle.std.proofs.Common.{map}
use Rattle.std.specs.List.{range_with_len}
use Rattle.band_walk.specs.Memos.{HasAdded}
use Rattle.band_walk.specs.Remaining.{sample_block}
use Rattle.band_walk.proofs.band.Band.add_segment.Given as goal

-- the blocks of the samples before j were added
abbrev pub invariant-loop-j : goal.invariant-loop-j
invariant-loop-j l = HasAdded (map (sample_block l.fn.self.side l.fn.segment) (range_with_len 0 l.j)) l.fn.memo l.fn.keys.items l.memo l.keys.items
