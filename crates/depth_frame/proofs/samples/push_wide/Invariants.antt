use Rattle.std.proofs.Common.{◌≡◌, ◌+◌, ◌*◌, take}
use Rattle.std.specs.Prelude.{vec_len, vec_capacity}
use Rattle.depth_frame.specs.Runs.{IsRun}
use Rattle.depth_frame.proofs.samples.push_wide.Given as goal

abbrev pub invariant-loop-i : goal.invariant-loop-i
invariant-loop-i l = record {
  run : IsRun l.maxval l.i (take (2 * l.i) l.bytes) l.initial.raw.items l.raw.items;
  len : vec_len l.raw ≡ vec_len l.initial.raw + l.i;
  room : vec_capacity l.raw ≡ vec_capacity l.initial.raw;
}
