use Rattle.band_walk.proofs.BandSet.{band_block_is_active}
use Rattle.band_walk.proofs.laws.band_is_active.Goals as goal

pub returns : goal.returns
returns c = band_block_is_active
