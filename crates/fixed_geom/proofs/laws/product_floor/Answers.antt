use Rattle.fixed_geom.proofs.ProductFloors.{product_floor}
use Rattle.fixed_geom.proofs.laws.product_floor.Goals as goal

pub returns : goal.returns
returns c = product_floor
