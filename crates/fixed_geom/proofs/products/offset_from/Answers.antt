use Rattle.std.proofs.Common.{subst, sym}
use Rattle.fixed_geom.specs.Vectors.{AreWithin}
use Rattle.fixed_geom.proofs.Sizes.{offset_bound, offset_within}
use Rattle.fixed_geom.proofs.Wide.{same_vec, offset_is}
use Rattle.fixed_geom.proofs.products.offset_from.Goals as goal

pub returns-clause-value : goal.returns-clause-value
returns-clause-value c =
    let p = c.args.p in
    let t = c.args.t in
    let v = c.requires.p in
    let w = c.requires.t in
    same_vec _ _ _ _ _ _
    (offset_is _ p.x t.x v.x w.x c.minus.ensures.value)
    (offset_is _ p.y t.y v.y w.y c.minus-2.ensures.value)
    (offset_is _ p.z t.z v.z w.z c.minus-3.ensures.value)

pub returns-clause-bound : goal.returns-clause-bound
returns-clause-bound c = subst (AreWithin offset_bound) (sym (returns-clause-value c)) (offset_within c.args.t c.args.p c.requires.t c.requires.p)
