use Rattle.std.proofs.Common.{◌≡◌, ◌+◌, ◌*◌, ◌++◌, vec_len}
use Rattle.std.specs.Prelude.{vec_capacity}
use Rattle.scan_gen.specs.Generated.{row_front}
use Rattle.scan_gen.proofs.raster.push_row.Given as goal

abbrev pub invariant-loop-u : goal.invariant-loop-u
invariant-loop-u l = record {
  items : l.bytes.items ≡ l.fn.bytes.items ++ row_front l.view l.v l.u;
  len : vec_len l.bytes ≡ vec_len l.fn.bytes + 2 * l.u;
  capacity : vec_capacity l.bytes ≡ vec_capacity l.fn.bytes;
}
