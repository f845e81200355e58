use Rattle.std.proofs.Common.{◌≡◌, ◌*◌, length, vec_len}
use Rattle.std.specs.List.{flat_map, range_with_len}
use Rattle.raycaster.specs.Views.{scene_of_view}
use Rattle.raycaster.specs.Walk.{row_samples}
use Rattle.raycaster.proofs.picture.sample_rows.Given as goal

abbrev pub invariant-loop-v : goal.invariant-loop-v
invariant-loop-v l = record {
  samples : l.raw.items ≡ flat_map (row_samples (scene_of_view l.view)) (range_with_len 0 l.v);
  count : vec_len l.raw ≡ l.width * l.v;
  row : length l.row ≡ l.width;
}
