use Rattle.std.proofs.Common.{◌≡◌}
use Rattle.work_board.specs.Seats.{Belongs}
use Rattle.work_board.proofs.tests.take_turns.Given as goal

abbrev pub invariant-loop : goal.invariant-loop
invariant-loop l = Belongs l.seat l.board × (l.seat.knows.part ≡ l.fn.seat.knows.part)
