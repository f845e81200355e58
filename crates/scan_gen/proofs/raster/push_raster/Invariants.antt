use Rattle.std.proofs.Common.{◌≡◌, ◌+◌, ◌*◌, ◌++◌, vec_len}
use Rattle.std.specs.Prelude.{vec_capacity}
use Rattle.scan_gen.specs.Generated.{raster_front}
use Rattle.scan_gen.proofs.raster.push_raster.Given as goal

abbrev pub invariant-loop-v : goal.invariant-loop-v
invariant-loop-v l = record {
  items : l.bytes.items ≡ l.fn.bytes.items ++ raster_front l.view l.v;
  len : vec_len l.bytes ≡ vec_len l.fn.bytes + 1280 * l.v;
  capacity : vec_capacity l.bytes ≡ vec_capacity l.fn.bytes;
}
