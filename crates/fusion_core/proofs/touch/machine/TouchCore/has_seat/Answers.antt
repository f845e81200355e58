use Rattle.std.proofs.Common.{subst}
use Rattle.fusion_core.specs.TouchMachine.{RuleHolds}
use Rattle.fusion_core.proofs.touch.machine.TouchCore.has_seat.Goals as goal

pub returns-clause-rule : goal.returns-clause-rule
returns-clause-rule c = subst RuleHolds c.self.view_is c.self.invariant.rule
