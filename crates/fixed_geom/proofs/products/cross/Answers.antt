use Rattle.std.proofs.Common.{subst, sym}
use Rattle.std.specs.Prelude.{pos}
use Rattle.fixed_geom.specs.Vectors.{AreWithin}
use Rattle.fixed_geom.proofs.Sizes.{cross_within}
use Rattle.fixed_geom.proofs.Wide.{minor_is, same_vec}
use Rattle.fixed_geom.proofs.products.cross.Goals as goal

pub returns-clause-value : goal.returns-clause-value
returns-clause-value c =
    let a = c.args.a in
    let b = c.args.b in
    let v = c.requires.a in
    let w = c.requires.b in
    same_vec _ _ _ _ _ _
    (minor_is _ _ _ a.y b.z a.z b.y v.y w.z v.z w.y c.product.ensures.value c.product-2.ensures.value c.minus.ensures.value)
    (minor_is _ _ _ a.z b.x a.x b.z v.z w.x v.x w.z c.product-3.ensures.value c.product-4.ensures.value c.minus-2.ensures.value)
    (minor_is _ _ _ a.x b.y a.y b.x v.x w.y v.y w.x c.product-5.ensures.value c.product-6.ensures.value c.minus-3.ensures.value)

pub returns-clause-bound : goal.returns-clause-bound
returns-clause-bound c = subst (AreWithin (pos 4611686018427387904)) (sym (returns-clause-value c)) (cross_within c.args.a c.args.b c.requires.a c.requires.b)
