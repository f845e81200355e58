-- What is proved of every scene and of every walk.
use Rattle.std.specs.Prelude.{ℕ, ◌+◌, ◌≡◌, ◌↔◌, ◌<◌, false, IsTrue, ℤ, pos, ◌≤ℤ◌, ◌<ℤ◌, Option, None, Some, List, slice_get}
use Rattle.std.specs.FinMap.{FinMap, get}
use Rattle.fixed_geom.specs.declared.vector.Vec3.{Vec3}
use Rattle.fixed_geom.specs.Poses.{Pose, IsPose}
use Rattle.voxel_block.specs.declared.key.BlockKey.{BlockKey}
use Rattle.voxel_block.specs.declared.voxel.Voxel.{Voxel}
use Rattle.voxel_block.specs.Keys.{key_cmp}
use Rattle.camera.specs.declared.camera.CameraFields.{CameraFields}
use Rattle.camera.specs.Cameras.{HasRanges, IsCamera, is_active}
use Rattle.camera.specs.Grid.{block_of_voxel, index_of_voxel}
use Rattle.camera.specs.Values.{value_of}
use Rattle.ray_walk.specs.Points.{point_depth}
use Rattle.raycaster.specs.Walk.{hit, hit_depth, is_hit, picture, scene_of}

-- the map has the block of a voxel, and the voxel has this value and a weight above 0
pub record IsKnown (m : FinMap key_cmp (List Voxel)) (c : Vec3) (f : ℤ) : Type 0 where
  pub voxels : List Voxel
  pub block : get m (block_of_voxel c) ≡ Some voxels
  pub voxel : Voxel
  pub is : slice_get voxels (index_of_voxel c) ≡ Some voxel
  pub weight : 0 < voxel.w
  pub value : voxel.f ≡ f

-- a value is known exactly where the block is in the map and the voxel's weight is above 0
abbrev pub KnownIsWeighed : Type 0
KnownIsWeighed = (m : FinMap key_cmp (List Voxel)) (c : Vec3) (f : ℤ) → (value_of m c ≡ Some f) ↔ IsKnown m c f

-- the hit is the least point at which the value falls
abbrev pub HitIsLeast : Type 0
HitIsLeast = (w : List (Option ℤ)) (j : ℕ) → (hit w ≡ Some j) ↔ (IsTrue (is_hit w j) × ((i : ℕ) → i < j → is_hit w i ≡ false))

-- there is none exactly where it falls at no point
abbrev pub NoHitIsNone : Type 0
NoHitIsNone = (w : List (Option ℤ)) → (hit w ≡ None) ↔ ((i : ℕ) → is_hit w i ≡ false)

-- the depth of a hit lies between those of its two points
abbrev pub HitIsBetween : Type 0
HitIsBetween = (k : CameraFields) (j : ℕ) (f g : ℤ) → HasRanges k → pos 0 <ℤ f → g ≤ℤ pos 0 → (point_depth k j ≤ℤ hit_depth k.voxel (point_depth k j) f g) × (hit_depth k.voxel (point_depth k j) f g ≤ℤ point_depth k (j + 1))

-- two maps have the same blocks at the keys that are active
pub record AgreeOnActive (k : CameraFields) (m : Pose) (a b : FinMap key_cmp (List Voxel)) : Type 0 where
  pub same : (q : BlockKey) → IsTrue (is_active k m q) → get a q ≡ get b q

-- a picture depends on the active blocks alone
abbrev pub ActiveBlocksDecide : Type 0
ActiveBlocksDecide = (k : CameraFields) (m : Pose) (a b : FinMap key_cmp (List Voxel)) → IsCamera k → IsPose m → AgreeOnActive k m a b → picture (scene_of k m a) ≡ picture (scene_of k m b)
