use Rattle.std.proofs.Common.{◌≡◌}
use Rattle.work_board.proofs.tests.ended_machine.Given as goal

abbrev pub invariant-loop : goal.invariant-loop
invariant-loop l = l.machine.start.work ≡ l.work

abbrev pub invariant-loop-event : goal.invariant-loop-event
invariant-loop-event l = l.machine.start.work ≡ l.work
