use Rattle.camera.proofs.KeyLemmas.{nearest_floor}
use Rattle.camera.proofs.grid.nearest_axis.Goals as goal

pub returns : goal.returns
returns c = nearest_floor c.div_euclid.result c.args.p c.args.size (record { sfits = c.div_euclid.type_inv }) c.requires.p c.requires.size c.requires.size_high c.div_euclid.ensures
