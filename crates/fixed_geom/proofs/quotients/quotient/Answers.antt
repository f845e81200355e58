use Rattle.fixed_geom.proofs.ProductFloors.{product_wide}
use Rattle.fixed_geom.proofs.quotients.quotient.Goals as goal

pub returns : goal.returns
returns c = product_wide c.args.n c.args.by c.args.reciprocal c.from.result c.from-2.result c.requires.least c.requires.small c.requires.reciprocal c.from.ensures c.from-2.ensures
