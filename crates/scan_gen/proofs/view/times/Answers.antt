use Rattle.std.proofs.Common.{subst, sym}
use Rattle.std.specs.Prelude.{pos}
use Rattle.std.proofs.lemmas.Int.{to_z-of_z}
use Rattle.fixed_geom.specs.Vectors.{IsWithin}
use Rattle.scan_gen.proofs.Products.{product_same, product_within}
use Rattle.scan_gen.proofs.view.times.Goals as goal

pub returns-clause-value : goal.returns-clause-value
returns-clause-value c = rw (to_z-of_z _ _ c.ranges.a, to_z-of_z _ _ c.ranges.b) (product_same c.args.a c.args.b c.requires.a c.requires.b)

pub returns-clause-bound : goal.returns-clause-bound
returns-clause-bound c = subst (IsWithin (pos 281474976710656)) (sym (returns-clause-value c)) (product_within c.args.a c.args.b c.requires.a c.requires.b)
