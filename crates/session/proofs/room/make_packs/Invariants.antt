use Rattle.std.proofs.Common.{◌≡◌, ◌≤◌, length}
use Rattle.std.specs.Prelude.{vec_capacity}
use Rattle.session.proofs.room.make_packs.Given as goal

abbrev pub invariant-loop : goal.invariant-loop
invariant-loop l = record {
  made : length l.packs.items ≡ l.counter;
  room : l.count ≤ vec_capacity l.packs;
}
