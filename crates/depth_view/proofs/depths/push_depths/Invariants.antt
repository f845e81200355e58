use Rattle.std.proofs.Common.{◌≡◌, ◌+◌, ◌++◌, map, take}
use Rattle.std.specs.Prelude.{vec_len, vec_capacity}
use Rattle.depth_view.specs.Views.{listed_depth}
use Rattle.depth_view.proofs.depths.push_depths.Given as goal

abbrev pub invariant-loop-i : goal.invariant-loop-i
invariant-loop-i l =
    (l.depths.items ≡ l.initial.depths.items ++ map (listed_depth l.fn.camera) (take l.i l.fn.samples))
    × (vec_len l.depths ≡ vec_len l.initial.depths + l.i)
    × (vec_capacity l.depths ≡ vec_capacity l.initial.depths)
