use Rattle.camera.proofs.GridLemmas.{chunk_coordinate_is, chunk_coordinate_within}
use Rattle.camera.proofs.grid.chunk_coordinate.Goals as goal

pub returns-clause-value : goal.returns-clause-value
returns-clause-value c = chunk_coordinate_is c.from.result c.args.chunk c.args.size c.ranges.chunk c.requires c.from.ensures

pub returns-clause-bound : goal.returns-clause-bound
returns-clause-bound c = chunk_coordinate_within _ c.args.chunk c.args.size c.ranges.chunk c.requires (returns-clause-value c)
