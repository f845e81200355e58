-- The surface points of a map: along each axis, where the value goes through 0 between a voxel and the next one. The definition is this project's own.
use Rattle.std.specs.Prelude.{◌≡◌, ℕ, ℤ, pos, neg_ℤ, ◌+ℤ◌, ◌-ℤ◌, ◌*ℤ◌, int_lt, Bool, false, not, if◌then◌else◌, Option, None, Some, option_map, List, ◌++◌}
use Rattle.std.specs.FinMap.{FinMap, get, keys}
use Rattle.std.specs.List.{flat_map, range_with_len}
use Rattle.std.specs.Option.{option_to_list}
use Rattle.fixed_geom.specs.Division.{floor_div}
use Rattle.fixed_geom.specs.declared.vector.Vec3.{Vec3}
use Rattle.fixed_geom.specs.Vectors.{vec}
use Rattle.voxel_block.specs.declared.key.BlockKey.{BlockKey}
use Rattle.voxel_block.specs.declared.voxel.Voxel.{Voxel}
use Rattle.voxel_block.specs.Keys.{key_cmp}
use Rattle.camera.specs.Grid.{block, voxel_coordinates}
use Rattle.camera.specs.Values.{value_of}
use Rattle.crossing_export.specs.declared.crossing.Axis.{Axis}
use Rattle.crossing_export.specs.declared.crossing.Axis.TheVariants.{X, Y, Z}
use Rattle.crossing_export.specs.declared.crossing.Crossing.{Crossing}

-- ---- between two voxels

-- whether two values are known and exactly one of them is above 0
abbrev pub crosses : (here next : Option ℤ) → Bool
crosses None next = false
crosses (Some f) None = false
crosses (Some f) (Some g) = if int_lt (pos 0) f then not (int_lt (pos 0) g) else int_lt (pos 0) g

-- how far behind a voxel of the value f, `s` in front of the next one, of the value g, a straight line from f to g is 0: the floor of s f / (f - g). Where g is above 0 both are taken with the other sign, so that the divisor is above 0
abbrev pub crossing_point : (s f g : ℤ) → ℤ
crossing_point s f g = if int_lt (pos 0) f then floor_div (s *ℤ f) (f -ℤ g) else floor_div (s *ℤ neg_ℤ f) (g -ℤ f)

-- the same by the known values, nothing where they do not cross
abbrev pub crossing_offset : (s : ℤ) → (here next : Option ℤ) → Option ℤ
crossing_offset s None next = None
crossing_offset s (Some f) None = None
crossing_offset s (Some f) (Some g) = if crosses (Some f) (Some g) then Some (crossing_point s f g) else None

-- ---- the crossings of a voxel

-- a vector with a number added on one axis
abbrev pub moved : Axis → ℤ → Vec3 → Vec3
moved X d p = vec (p.x +ℤ d) p.y p.z
moved Y d p = vec p.x (p.y +ℤ d) p.z
moved Z d p = vec p.x p.y (p.z +ℤ d)

-- the world point of the voxel with these coordinates in the whole grid
abbrev pub voxel_point : (s : ℤ) → Vec3 → Vec3
voxel_point s c = vec (c.x *ℤ s) (c.y *ℤ s) (c.z *ℤ s)

-- a point as a crossing
abbrev pub crossing_of : Vec3 → Crossing
crossing_of p = record { x = p.x; y = p.y; z = p.z }

-- the crossing between the voxel with the coordinates c and the next one along an axis
abbrev pub crossing_along : FinMap key_cmp (List Voxel) → (s : ℤ) → Vec3 → Axis → Option Crossing
crossing_along m s c axis = option_map (λ d. crossing_of (moved axis d (voxel_point s c))) (crossing_offset s (value_of m c) (value_of m (moved axis (pos 1) c)))

-- those on the three axes
abbrev pub crossings_at : FinMap key_cmp (List Voxel) → (s : ℤ) → Vec3 → List Crossing
crossings_at m s c = option_to_list (crossing_along m s c X) ++ option_to_list (crossing_along m s c Y) ++ option_to_list (crossing_along m s c Z)

-- ---- the crossings of a map

-- those of the first n voxels of a block, in the order of their indices
unfoldable pub first_crossings : FinMap key_cmp (List Voxel) → (s : ℤ) → BlockKey → (n : ℕ) → List Crossing
first_crossings m s b n = flat_map (λ i. crossings_at m s (voxel_coordinates b i)) (range_with_len 0 n)

-- those of a block
abbrev pub block_crossings : FinMap key_cmp (List Voxel) → (s : ℤ) → BlockKey → List Crossing
block_crossings m s b = first_crossings m s b 512

-- those of all blocks, in the order of their keys
abbrev pub crossings : FinMap key_cmp (List Voxel) → (s : ℤ) → List Crossing
crossings m s = flat_map (block_crossings m s) (keys m)

-- ---- a block and the next ones

-- a map has these voxels at the key b, and these, if any, at the next key on each axis
pub record IsAround (m : FinMap key_cmp (List Voxel)) (b : BlockKey) (voxels : List Voxel) (on_x on_y on_z : Option (List Voxel)) : Type 0 where
  pub here : get m b ≡ Some voxels
  pub x : get m (block (b.x +ℤ pos 1) b.y b.z) ≡ on_x
  pub y : get m (block b.x (b.y +ℤ pos 1) b.z) ≡ on_y
  pub z : get m (block b.x b.y (b.z +ℤ pos 1)) ≡ on_z
