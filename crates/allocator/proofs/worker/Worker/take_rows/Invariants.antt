use Rattle.std.proofs.Common.{◌≡◌}
use Rattle.band_walk.specs.Bands.{band}
use Rattle.hash_share.specs.Seats.{Belongs}
use Rattle.allocator.specs.Work.{HasNoted, TouchedOnly, TouchedRows}
use Rattle.allocator.proofs.worker.Worker.take_rows.Given as goal

-- of the rows before v the worker's are touched
abbrev pub invariant-loop-v : goal.invariant-loop-v
invariant-loop-v g l = record {
  belongs : Belongs l.self.seat l.share;
  part : l.self.seat.knows.part ≡ 1;
  number : l.self.number ≡ l.fn.self.number;
  noted : HasNoted l.self.memo l.self.seat.knows;
  only : TouchedOnly (band (g.B.Rows.shown l.rows)) l.self.seat.knows;
  rows : TouchedRows (g.B.Rows.shown l.rows) l.workers l.fn.self.number 1 l.v l.self.seat.knows;
}
