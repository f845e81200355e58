use Rattle.band_walk.proofs.BandSet.{from_rows, to_rows}
use Rattle.band_walk.proofs.laws.rows_are_the_band.Goals as goal

pub returns : goal.returns
returns c = λ w b. (from_rows w b, to_rows w b)
