use Rattle.std.proofs.Common.{◌≡◌, ◌++◌}
use Rattle.band_walk.specs.BandViews.{view_of_band}
use Rattle.band_walk.specs.Bands.{row_keys}
use Rattle.band_walk.specs.RemainingKeys.{remaining_keys}
use Rattle.band_walk.proofs.tests.collected.Given as goal

-- the keys so far, and the remaining ones
abbrev pub invariant-loop-key : goal.invariant-loop-key
invariant-loop-key l = l.keys.items ++ remaining_keys l.key-iterator ≡ row_keys (view_of_band l.fn.band) l.fn.v
