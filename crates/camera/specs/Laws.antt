-- What is proved of every camera and every pose.
use Rattle.std.specs.Prelude.{ℕ, ◌≡◌, ◌<◌, false, IsTrue, ℤ, pos, ◌≤ℤ◌, ◌<ℤ◌}
use Rattle.fixed_geom.specs.Poses.{Pose, IsPose, world}
use Rattle.voxel_block.specs.declared.key.BlockKey.{BlockKey}
use Rattle.voxel_block.specs.Chunks.{chunk_of}
use Rattle.camera.specs.declared.camera.CameraFields.{CameraFields}
use Rattle.camera.specs.Cameras.{IsCamera, max_depth, is_active, may_hold_active, ray}
use Rattle.camera.specs.Grid.{block_of_voxel, is_key, nearest_voxel}
use Rattle.camera.specs.Visibility.{IsInReach, IsMet, IsNearBlock, IsPiercedAt, MeetsNone, is_visible}

-- no voxel of a block that is not visible is met
abbrev pub InvisibleMeetsNone : Type 0
InvisibleMeetsNone = (k : CameraFields) (m : Pose) (b : BlockKey) → IsCamera k → IsPose m → is_visible k m b ≡ false → MeetsNone k m b

-- the chunk of an active block passes the test of chunks
abbrev pub ActiveIsHeld : Type 0
ActiveIsHeld = (k : CameraFields) (m : Pose) (b : BlockKey) → IsCamera k → IsPose m → IsTrue (is_active k m b) → IsTrue (may_hold_active k m (chunk_of b))

-- a block with a voxel that is met is active
abbrev pub MetIsActive : Type 0
MetIsActive = (k : CameraFields) (m : Pose) (b : BlockKey) (i : ℕ) → IsCamera k → IsPose m → i < 512 → IsMet k m b i → IsTrue (is_active k m b)

-- a block is active, its coordinates fit 16 bits with room to spare, and its lowest corner is within 2^30 of the origin on each axis, if it is pierced by the segment between the world points of a pixel's ray at two depths that a frame may touch
abbrev pub PiercedIsActive : Type 0
PiercedIsActive = (k : CameraFields) (m : Pose) (u v : ℕ) (y z p q : ℤ) (b : BlockKey) → IsCamera k → IsPose m → pos u <ℤ k.width → pos v <ℤ k.height → pos 1 ≤ℤ y → y ≤ℤ max_depth k → pos 1 ≤ℤ z → z ≤ℤ max_depth k
    → IsPiercedAt k.voxel p q (world m (ray k (pos u) (pos v) y)) (world m (ray k (pos u) (pos v) z)) b → IsTrue (is_active k m b) × IsTrue (is_key b) × IsNearBlock b × IsInReach k.voxel b

-- the voxel nearest to the world point of a pixel's ray at a depth that a frame may touch lies in an active block whose coordinates fit 16 bits
abbrev pub NearestIsActive : Type 0
NearestIsActive = (k : CameraFields) (m : Pose) (u v : ℕ) (z : ℤ) → IsCamera k → IsPose m → pos u <ℤ k.width → pos v <ℤ k.height → pos 1 ≤ℤ z → z ≤ℤ max_depth k
    → IsTrue (is_active k m (block_of_voxel (nearest_voxel k.voxel (world m (ray k (pos u) (pos v) z))))) × IsTrue (is_key (block_of_voxel (nearest_voxel k.voxel (world m (ray k (pos u) (pos v) z)))))
