use Rattle.std.proofs.Common.{sym, ap, ◌∙◌, rules}
use Rattle.std.proofs.lemmas.Int.{to_z-of_z}
use mir.Val.{SFits}
use mir.Syntax.{w16}
use Rattle.collector.specs.Empty.{is_empty_block}
use Rattle.streamer.proofs.Owning.{owner_is}
use Rattle.session.specs.Collecting.{is_empty_owner}
use Rattle.session.proofs.collecting.is_empty_at.Goals as goal

pub returns-in-Some : goal.returns-in-Some
returns-in-Some c =
    let fits : SFits w16 c.args.empty_f = search rules in
    c.is_empty.ensures.block c.in-Some.block.now c.summary.ensures
    ∙ ap (λ e. is_empty_block e c.in-Some.block.now) (to_z-of_z w16 c.args.empty_f fits)
    ∙ ap (is_empty_owner c.args.empty_f) (c.in-Some.ensures.value ∙ sym (owner_is c.args.heap.now c.args.cell))

pub returns-in-None : goal.returns-in-None
returns-in-None c = ap (is_empty_owner c.args.empty_f) (c.in-None.ensures.value ∙ sym (owner_is c.args.heap.now c.args.cell))
