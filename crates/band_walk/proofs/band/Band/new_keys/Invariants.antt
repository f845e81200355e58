use Rattle.std.proofs.Common.{[]}
use Rattle.std.specs.List.{range_with_len, flat_map}
use Rattle.band_walk.specs.BandViews.{view_of_band}
use Rattle.band_walk.specs.Bands.{pixel_blocks}
use Rattle.band_walk.specs.Memos.{HasAdded}
use Rattle.band_walk.proofs.band.Band.new_keys.Given as goal

-- the blocks of the pixels before column u were added
abbrev pub invariant-loop-u : goal.invariant-loop-u
invariant-loop-u l = HasAdded (flat_map (λ u. pixel_blocks (view_of_band l.fn.self) u l.fn.v) (range_with_len 0 l.u)) l.fn.memo [] l.memo l.keys.items
