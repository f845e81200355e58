use Rattle.std.proofs.Common.{◌≡◌}
use Rattle.std.specs.Prelude.{vec_len, vec_capacity}
use Rattle.fusion_core.specs.TouchRoom.{AreFresh}
use Rattle.fusion_core.proofs.touch.machine.fresh_seats.Given as goal

abbrev pub invariant-loop : goal.invariant-loop
invariant-loop l = record {
  fresh : AreFresh l.counter l.words l.entries l.seats.items;
  len : vec_len l.seats ≡ l.counter;
  room : vec_capacity l.seats ≡ l.count;
}
