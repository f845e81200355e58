use Rattle.fixed_geom.proofs.Floors.{floor_is}
use Rattle.std.proofs.lemmas.Int.{to_z-of_z, ints}
use Rattle.std.proofs.Common.{arith}
use Rattle.fixed_geom.proofs.division.round_div.Goals as goal

pub returns-clause-value : goal.returns-clause-value
returns-clause-value c = search (arith, ints, to_z-of_z, c.div_euclid.ensures)

pub returns-clause-floor : goal.returns-clause-floor
returns-clause-floor c = rw (returns-clause-value c) (floor_is _ _ (omega (arith, ints, c.requires.positive)))
