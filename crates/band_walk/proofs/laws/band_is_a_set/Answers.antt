use Rattle.band_walk.proofs.BandSet.{from_band, to_band}
use Rattle.band_walk.proofs.laws.band_is_a_set.Goals as goal

pub returns : goal.returns
returns c = λ w b. (from_band w b, to_band w b)
