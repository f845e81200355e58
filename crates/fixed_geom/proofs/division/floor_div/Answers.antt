use Rattle.std.proofs.lemmas.Int.{to_z-of_z}
use Rattle.fixed_geom.proofs.Floors.{floor_is}
use Rattle.fixed_geom.proofs.division.floor_div.Goals as goal

pub returns-clause-floor : goal.returns-clause-floor
returns-clause-floor c =
    rw (to_z-of_z _ _ (record { sfits = c.div_euclid.type_inv }), c.div_euclid.ensures, to_z-of_z _ _ c.ranges.a, to_z-of_z _ _ c.ranges.b) (floor_is c.args.a c.args.b c.requires.positive)
