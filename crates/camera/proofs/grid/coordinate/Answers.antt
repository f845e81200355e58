use Rattle.camera.proofs.GridLemmas.{coordinate_is, coordinate_fits, coordinate_within}
use Rattle.camera.proofs.grid.coordinate.Goals as goal

pub returns-clause-value : goal.returns-clause-value
returns-clause-value c = coordinate_is c.from.result c.from-2.result c.args.block c.args.offset c.args.size c.ranges.block c.requires.offset c.requires.size c.from.ensures c.from-2.ensures

pub returns-clause-bound : goal.returns-clause-bound
returns-clause-bound c = coordinate_within _ c.args.block c.args.offset c.args.size c.ranges.block c.requires.offset c.requires.size (returns-clause-value c)

pub overflow_mul-result-2 : goal.overflow_mul-result-2
overflow_mul-result-2 c = coordinate_fits c.from.result c.from-2.result c.args.block c.args.offset c.args.size c.ranges.block c.requires.offset c.requires.size c.from.ensures c.from-2.ensures
