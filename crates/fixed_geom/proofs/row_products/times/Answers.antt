use Rattle.std.proofs.Common.{lit≤, subst, sym}
use Rattle.std.specs.Prelude.{pos}
use Rattle.std.proofs.lemmas.Int.{to_z-of_z}
use Rattle.fixed_geom.specs.Vectors.{IsWithin}
use Rattle.fixed_geom.proofs.Machine.{product_read}
use Rattle.fixed_geom.proofs.RowProducts.{entry_product}
use Rattle.fixed_geom.proofs.row_products.times.Goals as goal

pub returns-clause-value : goal.returns-clause-value
returns-clause-value c = rw (to_z-of_z _ _ c.ranges.entry, to_z-of_z _ _ c.ranges.coordinate) (product_read 1073872896 536870912 c.args.entry c.args.coordinate (lit≤ tt) c.requires.entry c.requires.coordinate)

pub returns-clause-bound : goal.returns-clause-bound
returns-clause-bound c = subst (IsWithin (pos 1152921504606846976)) (sym (returns-clause-value c)) (entry_product c.args.entry c.args.coordinate c.requires.entry c.requires.coordinate)
