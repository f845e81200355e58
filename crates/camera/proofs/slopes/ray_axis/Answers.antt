use Rattle.std.proofs.Common.{arith}
use Rattle.std.proofs.lemmas.Int.{ints}
use Rattle.camera.proofs.SlopeLemmas.{at_read}
use Rattle.camera.proofs.slopes.ray_axis.Goals as goal

pub returns : goal.returns
returns c = λ offset focal unit slope.
    at_read offset focal c.args.unit c.args.slope c.args.z c.units.result c.upper_half.result unit.focal_least unit.least unit.high unit.product slope.bound slope.floor (omega (arith, ints, c.requires.front)) (omega (arith, ints, c.requires.deep))
    (record { sfits = c.units.type_inv }) (record { sfits = c.upper_half.type_inv }) c.units.ensures c.upper_half.ensures
