-- What is proved of the depths of every frame.
use Rattle.std.specs.Prelude.{ℕ, ◌≡◌, ◌+◌, ◌*◌, slice_index_or}
use Rattle.std.specs.Option.{unwrap_or}
use Rattle.depth_view.specs.Views.{View, depth_at, depth_list, no_depth}

-- the depths have at the index of a pixel the depth that it shows, or the one that stands for none
abbrev pub ListedDepths : Type 0
ListedDepths = (w : View) (u v : ℕ) → slice_index_or (depth_list w.camera w.depths) (u + w.depths.width * v) no_depth ≡ unwrap_or (depth_at w u v) no_depth
