use Rattle.std.proofs.Common.{◌≤◌}
use Rattle.fusion_core.specs.Works.{IsFuse, IsWork, greatest_weight}
use Rattle.work_board.proofs.tests.four_seats_do_jobs_of_each_kind_at_once.Given as goal

abbrev pub invariant-loop : goal.invariant-loop
invariant-loop g l = IsFuse l.work × IsWork l.work × (1 ≤ greatest_weight l.work)
