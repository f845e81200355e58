use Rattle.fixed_geom.proofs.SignedProducts.{floor_of_product}
use Rattle.fixed_geom.proofs.laws.signed_product_floor.Goals as goal

pub returns : goal.returns
returns c = floor_of_product
