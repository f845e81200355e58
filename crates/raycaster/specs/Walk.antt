-- The picture that a camera would take of a map: each pixel shows the first surface on its ray. The depth between two points is that of Newcombe and others (2011); the choice of the points and the roundings are this project's own.
use Rattle.std.specs.Prelude.{ℕ, ◌+◌, ℤ, pos, ◌+ℤ◌, ◌-ℤ◌, ◌*ℤ◌, int_le, int_lt, Bool, false, ◌&&◌, unsigned_abs, min, Option, None, Some, List, length, map, slice_index_or}
use Rattle.std.specs.FinMap.{FinMap}
use Rattle.std.specs.List.{find, flat_map, range_with_len}
use Rattle.fixed_geom.specs.Division.{floor_div}
use Rattle.fixed_geom.specs.Poses.{Pose}
use Rattle.voxel_block.specs.declared.voxel.Voxel.{Voxel}
use Rattle.voxel_block.specs.Keys.{key_cmp}
use Rattle.depth_frame.specs.DepthMaps.{DepthMap, depth_map_of}
use Rattle.camera.specs.declared.camera.CameraFields.{CameraFields}
use Rattle.camera.specs.Values.{value_of}
use Rattle.ray_walk.specs.Points.{point_count, point_depth, voxel_at}

-- what a picture is of: a map from keys to the 512 voxels of a block, the camera, and the pose that it looks from
pub record Scene : Type 0 where
  pub blocks : FinMap key_cmp (List Voxel)
  pub camera : CameraFields
  pub pose : Pose

abbrev pub scene_of : CameraFields → Pose → FinMap key_cmp (List Voxel) → Scene
scene_of k p m = record { blocks = m; camera = k; pose = p }

-- ---- the walk of a pixel

-- the known value at point j
abbrev pub point_value : Scene → (u v j : ℕ) → Option ℤ
point_value s u v j = value_of s.blocks (voxel_at s.camera s.pose u v (point_depth s.camera j))

-- the walk of the pixel in column u and row v: the known value at each of its points, by their depth
unfoldable pub walk_points : Scene → (u v : ℕ) → List (Option ℤ)
walk_points s u v = map (point_value s u v) (range_with_len 0 (point_count s.camera))

-- ---- the hit

-- the known value at point j of a walk, nothing past its end
abbrev pub value_at : List (Option ℤ) → (j : ℕ) → Option ℤ
value_at w j = slice_index_or w j None

-- whether both values are known, the first one above 0 and the second one at most 0
abbrev pub falls : (front behind : Option ℤ) → Bool
falls None behind = false
falls (Some f) None = false
falls (Some f) (Some g) = int_lt (pos 0) f && int_le g (pos 0)

-- whether the value falls from above 0 to at most 0 between the points j and j + 1
abbrev pub is_hit : List (Option ℤ) → (j : ℕ) → Bool
is_hit w j = falls (value_at w j) (value_at w (j + 1))

-- the first point where it does
unfoldable pub hit : List (Option ℤ) → Option ℕ
hit w = find (is_hit w) (range_with_len 0 (length w))

-- ---- the picture

-- the depth of the surface between a point at depth z with the value f and the next one, s behind it, with the value g: where a straight line from f to g is 0
abbrev pub hit_depth : (s z f g : ℤ) → ℤ
hit_depth s z f g = z +ℤ floor_div (s *ℤ f) (f -ℤ g)

-- the sample that shows a depth
abbrev pub sample_of_depth : (unit depth : ℤ) → ℕ
sample_of_depth unit depth = min 65535 (unsigned_abs (floor_div depth unit))

-- the sample of a hit between a point at depth z and the next one, by their values
abbrev pub hit_sample : CameraFields → (z : ℤ) → (front behind : Option ℤ) → ℕ
hit_sample k z None behind = 0
hit_sample k z (Some f) None = 0
hit_sample k z (Some f) (Some g) = sample_of_depth k.unit (hit_depth k.voxel z f g)

-- the sample of a walk, by the point of its hit; 0 without a hit
abbrev pub sample_at : CameraFields → List (Option ℤ) → (hit : Option ℕ) → ℕ
sample_at k w None = 0
sample_at k w (Some j) = hit_sample k (point_depth k j) (value_at w j) (value_at w (j + 1))

-- the sample of the pixel in column u and row v
abbrev pub sample : Scene → (u v : ℕ) → ℕ
sample s u v = sample_at s.camera (walk_points s u v) (hit (walk_points s u v))

-- the samples of a row of pixels
unfoldable pub row_samples : Scene → (v : ℕ) → List ℕ
row_samples s v = map (λ u. sample s u v) (range_with_len 0 (unsigned_abs s.camera.width))

-- the samples of all rows
abbrev pub all_samples : Scene → List ℕ
all_samples s = flat_map (row_samples s) (range_with_len 0 (unsigned_abs s.camera.height))

-- the picture
abbrev pub picture : Scene → DepthMap
picture s = depth_map_of (unsigned_abs s.camera.width) (unsigned_abs s.camera.height) (all_samples s)
