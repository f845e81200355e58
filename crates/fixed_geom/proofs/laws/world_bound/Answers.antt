use Rattle.fixed_geom.proofs.Worlds.{world_bound}
use Rattle.fixed_geom.proofs.laws.world_bound.Goals as goal

pub returns : goal.returns
returns c = world_bound
