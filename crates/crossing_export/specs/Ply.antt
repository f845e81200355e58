-- The file of a list of points: PLY in ASCII, version 1.0 (Turk 1994).
use Rattle.std.specs.Prelude.{ℕ, List, ◌++◌, length, codes}
use Rattle.std.specs.List.{flat_map}
use Rattle.std.specs.Fmt.{decimal, signed_decimal}
use Rattle.crossing_export.specs.declared.crossing.Crossing.{Crossing}

-- the header: a list of n vertices, each with its three coordinates
abbrev pub ply_head : (n : ℕ) → List ℕ
ply_head n = codes "ply\nformat ascii 1.0\nelement vertex " ++ decimal n ++ codes "\nproperty int x\nproperty int y\nproperty int z\nend_header\n"

-- the line of a point
abbrev pub point_line : Crossing → List ℕ
point_line p = signed_decimal p.x ++ codes " " ++ signed_decimal p.y ++ codes " " ++ signed_decimal p.z ++ codes "\n"

-- the header, and then a line for each point
abbrev pub ply_text : List Crossing → List ℕ
ply_text list = ply_head (length list) ++ flat_map point_line list
