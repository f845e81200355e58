use Rattle.std.specs.Prelude.{◌*◌}
use Rattle.ray_ranges.proofs.SlabLemmas.{index_below}
use Rattle.ray_ranges.proofs.widening.range_index.Goals as goal

pub returns-clause-bound : goal.returns-clause-bound
returns-clause-bound c = index_below c.args.tile c.args.w (c.args.shape.down * c.args.shape.across) c.args.shape.slabs c.requires.tile c.requires.w
