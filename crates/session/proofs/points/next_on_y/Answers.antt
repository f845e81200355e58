use Rattle.std.proofs.Common.{sym, subst, rules}
use Rattle.std.specs.Prelude.{pos, ◌+ℤ◌}
use Rattle.std.proofs.lemmas.Int.{to_z-of_z}
use mir.Val.{SFits}
use mir.Syntax.{w16}
use Rattle.camera.specs.Grid.{block}
use Rattle.session.proofs.PointLemmas.{unknown}
use Rattle.session.proofs.points.next_on_y.Goals as goal

pub returns-in-None : goal.returns-in-None
returns-in-None c = sym (unknown c.args.rest.now (block c.args.key.x (c.args.key.y +ℤ pos 1) c.args.key.z) c.requires (λ fits.
    let here : SFits w16 c.args.key.y = search rules in
    c.in-None.ensures (subst (λ z. SFits w16 (z +ℤ pos 1)) (sym (to_z-of_z w16 c.args.key.y here)) fits.y)))
