use Rattle.std.proofs.Common.{◌≡◌, ◌++◌, drop, length}
use Rattle.std.specs.List.{flat_map}
use Rattle.crossing_export.specs.Ply.{ply_head, point_line}
use Rattle.crossing_export.specs.Steps.{IsGrown}
use Rattle.crossing_export.proofs.ply.write_ply.Given as goal

abbrev pub invariant-loop-point : goal.invariant-loop-point
invariant-loop-point l = record {
  left : l.bytes.items ++ flat_map point_line (drop l.point-index l.list) ≡ (l.fn.bytes.items ++ ply_head (length l.list)) ++ flat_map point_line l.list;
  grown : IsGrown l.fn.bytes.items l.bytes.items;
}
