use Rattle.std.proofs.Common.{◌≡◌, ◌*◌, ◌≤◌, drop}
use Rattle.std.specs.List.{fold}
use Rattle.streamer.specs.Owners.{owned_blocks}
use Rattle.session.specs.Sums.{IsSum, nothing, with_known}
use Rattle.session.proofs.totals.sums_in.Given as goal

-- the sums so far, and the cells still to come
abbrev pub invariant-loop-cell : goal.invariant-loop-cell
invariant-loop-cell l = record {
  left : fold with_known l.sums (owned_blocks (drop l.cell l.heap.cells)) ≡ fold with_known nothing (owned_blocks l.heap.cells);
  sum : IsSum l.sums;
  few : l.sums.known ≤ 512 * l.cell;
}
