use Rattle.std.proofs.Common.{◌≡◌}
use Rattle.hash_share.specs.Seats.{Belongs}
use Rattle.hash_share.proofs.tests.a_bucket_without_nodes_takes_four_keys.Given as goal

abbrev pub invariant-loop-z : goal.invariant-loop-z
invariant-loop-z g l = Belongs l.seat l.share × (l.seat.knows.part ≡ l.share.seats)
