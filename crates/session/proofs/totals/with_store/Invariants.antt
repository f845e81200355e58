use Rattle.std.proofs.Common.{◌≡◌, ◌+◌, ◌*◌, ◌^◌, ◌≤◌, length}
use Rattle.std.specs.List.{fold}
use Rattle.std.specs.FinMap.{entries}
use Rattle.chunk_store.specs.Remaining.{remaining_blocks}
use Rattle.session.specs.Sums.{IsSum, with_packed_known}
use Rattle.session.proofs.totals.with_store.Given as goal

-- the sums so far, and the blocks still to come
abbrev pub invariant-loop-key : goal.invariant-loop-key
invariant-loop-key l = record {
  left : fold with_packed_known l.result (remaining_blocks l.key-iterator) ≡ fold with_packed_known l.fn.sums (entries l.store.contents);
  sum : IsSum l.result;
  few : l.result.known + 512 * length (remaining_blocks l.key-iterator) ≤ 2 ^ 59;
}
