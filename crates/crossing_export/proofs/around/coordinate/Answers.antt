use Rattle.camera.proofs.GridLemmas.{coordinate_is, coordinate_fits}
use Rattle.crossing_export.proofs.PointLemmas.{coordinate_near, size_within}
use Rattle.crossing_export.proofs.around.coordinate.Goals as goal

pub returns-clause-value : goal.returns-clause-value
returns-clause-value c =
    coordinate_is c.from.result c.from-2.result c.args.block c.args.offset c.args.size c.ranges.block c.requires.offset (size_within c.args.size c.requires.size c.requires.size_high) c.from.ensures c.from-2.ensures

pub returns-clause-bound : goal.returns-clause-bound
returns-clause-bound c = coordinate_near _ c.args.size c.args.block c.args.offset c.requires.size c.requires.size_high c.requires.offset c.requires.reach (returns-clause-value c)

pub overflow_mul-result-2 : goal.overflow_mul-result-2
overflow_mul-result-2 c =
    coordinate_fits c.from.result c.from-2.result c.args.block c.args.offset c.args.size c.ranges.block c.requires.offset (size_within c.args.size c.requires.size c.requires.size_high) c.from.ensures c.from-2.ensures
