use Rattle.std.proofs.Common.{◌≡◌, ◌+◌, ◌<◌, ◌≤◌, length}
use Rattle.std.specs.List.{fold}
use Rattle.voxel_block.specs.Packing.{voxels_in}
use Rattle.session.specs.Fold.{known_in}
use Rattle.session.specs.Sums.{IsSum, added}
use Rattle.session.proofs.KnownLemmas.{left_in}
use Rattle.session.proofs.totals.with_packed.Given as goal

abbrev pub invariant-loop-i : goal.invariant-loop-i
invariant-loop-i l = record {
  left : fold added l.result (left_in l.key (voxels_in l.packed) l.i) ≡ fold added l.fn.sums (known_in l.key (voxels_in l.packed));
  sum : IsSum l.result;
  few : l.result.known ≤ l.fn.sums.known + l.i;
  counted : 0 < l.i → length (voxels_in l.packed) ≡ 512;
}
