use Rattle.std.proofs.Common.{◌≡◌}
use Rattle.hash_share.specs.Seats.{Belongs}
use Rattle.allocator.specs.Work.{Adds}
use Rattle.allocator.proofs.Adding.{TouchedBelow}
use Rattle.allocator.proofs.touching.touch_all.Given as goal

-- the keys before this one were touched
abbrev pub invariant-loop-key : goal.invariant-loop-key
invariant-loop-key l = record {
  belongs : Belongs l.seat l.share;
  part : l.seat.knows.part ≡ l.fn.seat.knows.part;
  adds : Adds l.keys l.fn.seat.knows l.seat.knows;
  all : TouchedBelow l.keys l.key-index l.seat.knows;
}
