use Rattle.std.proofs.Common.{◌≡◌}
use Rattle.hash_share.specs.Seats.{Belongs}
use Rattle.hash_share.proofs.tests.touch_all.Given as goal

abbrev pub invariant-loop : goal.invariant-loop
invariant-loop l = Belongs l.seat l.share × (l.seat.knows.part ≡ l.fn.seat.knows.part)
