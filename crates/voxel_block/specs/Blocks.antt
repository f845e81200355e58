-- The 512 voxels of a block, and the index of each.
use Rattle.std.specs.Prelude.{ℕ, ◌+◌, ◌*◌, ◌/◌, ◌%◌, List, map, replicate}
use Rattle.std.specs.List.{enumerate_from}
use Rattle.voxel_block.specs.declared.voxel.Voxel.{Voxel}
use Rattle.voxel_block.specs.Voxels.{new_voxel}

-- a block whose voxels were never observed
abbrev pub new_block : List Voxel
new_block = replicate 512 new_voxel

-- the coordinates of a voxel in its block, from 0 to 7 on each axis
pub record Offset : Type 0 where
  pub x : ℕ
  pub y : ℕ
  pub z : ℕ

-- the index of the voxel with these coordinates
abbrev pub index_of : Offset → ℕ
index_of o = o.x + 8 * o.y + 64 * o.z

-- the coordinates of the voxel of an index
abbrev pub offset_of : ℕ → Offset
offset_of i = record { x = i % 8; y = i / 8 % 8; z = i / 64 }

-- each element changed by a rule that knows its index
abbrev pub by_index : {X : Type 0} → (ℕ → X → X) → List X → List X
by_index f xs = map (λ p. f p.0 p.1) (enumerate_from 0 xs)
