use Rattle.std.proofs.Common.{rules, ◌≡◌, ℕ}
use Rattle.std.specs.Prelude.{Option, Some, slice_get}
use Rattle.fusion_core.specs.declared.board.hand.Hand.TheVariants.{Works}
use Rattle.fusion_core.specs.BoardStates.{BoardState}
use Rattle.fusion_core.proofs.StepLemmas.{hand_claimed}
use Rattle.fusion_core.proofs.board.machine.Core.job_to_finish.Goals as goal

pub job-requires : goal.job-requires
job-requires c =
    let m : BoardState = c.args.self.now in let w : ℕ = c.args.w in let j : ℕ = c.in-Some-Works.j in let got : Option ℕ = c.in-Some-Works.drawn in
    let at : slice_get m.hands w ≡ Some (Works j got) = search rules in
    (hand_claimed m w j got c.hand.ensures.whole at).2

pub returns-then-has_all-clause-inside : goal.returns-then-has_all-clause-inside
returns-then-has_all-clause-inside c =
    let m : BoardState = c.args.self.now in let w : ℕ = c.args.w in let j : ℕ = c.in-Some-Works.j in let got : Option ℕ = c.in-Some-Works.drawn in
    let at : slice_get m.hands w ≡ Some (Works j got) = search rules in
    (hand_claimed m w j got c.hand.ensures.whole at).2
