use Rattle.std.proofs.Common.{rules, ◌≡◌, ℕ, sym, ap, ◌∙◌, true}
use Rattle.std.specs.Prelude.{None, Some, slice_get}
use Rattle.fusion_core.specs.declared.board.event.Event.TheVariants.{Draw}
use Rattle.fusion_core.specs.declared.board.hand.Hand.TheVariants.{Works}
use Rattle.fusion_core.specs.Jobs.{draws}
use Rattle.fusion_core.specs.BoardStates.{BoardState, allowed, may_draw}
use Rattle.fusion_core.proofs.HandLemmas.{draw_fits}
use Rattle.fusion_core.proofs.StepLemmas.{hand_claimed}
use Rattle.fusion_core.proofs.board.machine.Core.job_to_draw.Goals as goal

pub job-requires : goal.job-requires
job-requires c =
    let m : BoardState = c.args.self.now in let w : ℕ = c.args.w in let j : ℕ = c.in-Some-Works-default-None.j in
    let at : slice_get m.hands w ≡ Some (Works j None) = search rules in
    (hand_claimed m w j None c.hand.ensures.whole at).2

pub returns-then-draws-clause-room : goal.returns-then-draws-clause-room
returns-then-draws-clause-room c =
    let m : BoardState = c.args.self.now in let w : ℕ = c.args.w in let j : ℕ = c.in-Some-Works-default-None.j in
    let at : slice_get m.hands w ≡ Some (Works j None) = search rules in
    let yes : c.draws.result ≡ true = search rules in
    let may : allowed m (Draw w) ≡ true = ap (may_draw m.start) at ∙ (sym (c.draws.ensures ∙ ap draws c.job.ensures) ∙ yes) in
    draw_fits m w j c.hand.ensures.whole (record { may = may; hand = at })
