use Rattle.std.proofs.lemmas.Bool.{false≢true}
use Rattle.fusion_core.proofs.TouchGuards.{not_there}
use Rattle.fusion_core.proofs.touch.machine.TouchCore.allows.Goals as goal

pub returns-then-not-has_seat-clause-allowed : goal.returns-then-not-has_seat-clause-allowed
returns-then-not-has_seat-clause-allowed c =
    ((λ f. absurd (false≢true f)), (λ a. absurd (not_there c.args.self.now c.args.seat c.args.touch (λ lt. false≢true (c.if-not-has_seat.ensures.there.1 lt)) a)))
