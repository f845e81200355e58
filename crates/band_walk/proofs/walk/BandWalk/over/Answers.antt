use Rattle.std.proofs.Common.{◌∙◌, ap}
use Rattle.std.specs.Prelude.{None}
use Rattle.band_walk.specs.BandViews.{view_of_band}
use Rattle.band_walk.specs.Bands.{row_blocks}
use Rattle.band_walk.specs.Remaining.{keys_after}
use Rattle.band_walk.proofs.Keys.{keys_from_first}
use Rattle.band_walk.proofs.walk.BandWalk.over.Goals as goal

pub returns : goal.returns
returns c = ap (keys_after None) c.of.ensures.remaining ∙ keys_from_first (row_blocks (view_of_band c.args.band.now) c.args.v)
