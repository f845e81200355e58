use Rattle.std.proofs.Common.{◌≤◌}
use Rattle.fusion_core.specs.Works.{IsFuse, IsWork, greatest_weight}
use Rattle.fusion_core.proofs.board.tests.steps_are_allowed_or_not.Given as goal

abbrev pub invariant-loop-name : goal.invariant-loop-name
invariant-loop-name g l = IsFuse l.work × IsWork l.work × (1 ≤ greatest_weight l.work)
