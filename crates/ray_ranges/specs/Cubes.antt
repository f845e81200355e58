-- Cubes of voxels, and the points of walks whose nearest voxel is in one.
use Rattle.std.specs.Prelude.{ℕ, ◌≤◌, ◌/◌, ◌%◌, ◌*◌, ℤ, pos, ◌+ℤ◌, ◌-ℤ◌, ◌*ℤ◌, ◌≤ℤ◌}
use Rattle.fixed_geom.specs.declared.vector.Vec3.{Vec3}
use Rattle.fixed_geom.specs.Vectors.{AreWithin, vec, minus}
use Rattle.fixed_geom.specs.Poses.{Pose, cam, world}
use Rattle.voxel_block.specs.declared.key.BlockKey.{BlockKey}
use Rattle.camera.specs.declared.camera.CameraFields.{CameraFields}
use Rattle.camera.specs.Cameras.{ray}
use Rattle.ray_walk.specs.Points.{IsPoint, point_depth, voxel_at}

-- z is from a to b
pub record IsFrom (a b z : ℤ) : Type 0 where
  pub low : a ≤ℤ z
  pub high : z ≤ℤ b

-- the voxel n is in the cube with the least voxel l and e voxels a side
pub record IsInCube (l : Vec3) (e : ℤ) (n : Vec3) : Type 0 where
  pub x : IsFrom l.x (l.x +ℤ e -ℤ pos 1) n.x
  pub y : IsFrom l.y (l.y +ℤ e -ℤ pos 1) n.y
  pub z : IsFrom l.z (l.z +ℤ e -ℤ pos 1) n.z

-- the least voxel of a part of a block: the block has 8 parts of 4 voxels a side, and the bits of a part's number say which half it is in, on x, y and z
abbrev pub part_least : BlockKey → (part : ℕ) → Vec3
part_least b p = vec (pos 8 *ℤ b.x +ℤ pos (4 * (p % 2))) (pos 8 *ℤ b.y +ℤ pos (4 * (p / 2 % 2))) (pos 8 *ℤ b.z +ℤ pos (4 * (p / 4 % 2)))

-- the walk of pixel (u, v) has the point j, and a hit may end at it: it is not the walk's first one
pub record IsEnd (k : CameraFields) (u v j : ℕ) : Type 0 where
  pub point : IsPoint k u v j
  pub late : 1 ≤ j

-- its nearest voxel is in the cube with the least voxel l and e voxels a side
abbrev pub IsNearCube : CameraFields → Pose → (l : Vec3) (e : ℤ) → (u v j : ℕ) → Type 0
IsNearCube k m l e u v j = IsInCube l e (voxel_at k m u v (point_depth k j))

-- each such point, brought to the world and back, moves by at most d
abbrev pub HasDrift : CameraFields → Pose → (d : ℤ) → Type 0
HasDrift k m d = (u v j : ℕ) → IsEnd k u v j → AreWithin d (minus (cam m (world m (ray k (pos u) (pos v) (point_depth k j)))) (ray k (pos u) (pos v) (point_depth k j)))

-- a block begins within 152 metres of the origin on each axis, as each block does that a walk reads
abbrev pub IsReadable : (s : ℤ) → BlockKey → Type 0
IsReadable s b = AreWithin (pos 152000000) (vec (s *ℤ (pos 8 *ℤ b.x)) (s *ℤ (pos 8 *ℤ b.y)) (s *ℤ (pos 8 *ℤ b.z)))
