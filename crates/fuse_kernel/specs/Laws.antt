-- What is proved of every frame.
use Rattle.std.specs.Prelude.{ℕ, ◌≡◌, ◌<◌, false, IsTrue, ◌-ℤ◌, List, length}
use Rattle.fixed_geom.specs.declared.vector.Vec3.{Vec3}
use Rattle.fixed_geom.specs.Poses.{cam}
use Rattle.voxel_block.specs.declared.key.BlockKey.{BlockKey}
use Rattle.voxel_block.specs.declared.voxel.Voxel.{Voxel}
use Rattle.camera.specs.Cameras.{is_active}
use Rattle.camera.specs.Grid.{point_of}
use Rattle.camera.specs.Visibility.{is_visible}
use Rattle.depth_view.specs.Views.{View, IsView}
use Rattle.fuse_kernel.specs.Updates.{HasWeightsWithin, Meets, averaged, update, updated}

-- a voxel that a frame meets is averaged
abbrev pub MetIsAveraged : Type 0
MetIsAveraged = (w : View) (n : ℕ) (p : Vec3) (x : Voxel) → (m : Meets w p) → update w n p x ≡ averaged w.camera.mu n (m.d -ℤ (cam w.pose p).z) x

-- and every other one stays
abbrev pub UnmetStays : Type 0
UnmetStays = (w : View) (n : ℕ) (p : Vec3) (x : Voxel) → ¬ Meets w p → update w n p x ≡ x

-- a frame meets no voxel of a block that is not visible
abbrev pub InvisibleIsNotMet : Type 0
InvisibleIsNotMet = (w : View) (b : BlockKey) (i : ℕ) → IsView w → i < 512 → is_visible w.camera w.pose b ≡ false → ¬ Meets w (point_of w.camera.voxel b i)

-- a block is active if the frame meets a voxel of it
abbrev pub MetIsActive : Type 0
MetIsActive = (w : View) (b : BlockKey) (i : ℕ) → IsView w → i < 512 → Meets w (point_of w.camera.voxel b i) → IsTrue (is_active w.camera w.pose b)

-- so the update leaves a block that is not visible as it is
abbrev pub InvisibleStays : Type 0
InvisibleStays = (w : View) (n : ℕ) (b : BlockKey) (voxels : List Voxel) → IsView w → length voxels ≡ 512 → is_visible w.camera w.pose b ≡ false → updated w n b voxels ≡ voxels

-- and one that is not active
abbrev pub InactiveStays : Type 0
InactiveStays = (w : View) (n : ℕ) (b : BlockKey) (voxels : List Voxel) → IsView w → length voxels ≡ 512 → is_active w.camera w.pose b ≡ false → updated w n b voxels ≡ voxels

-- where no voxel of a block weighs more than the greatest weight, none does after an update
abbrev pub WeightsStayBounded : Type 0
WeightsStayBounded = (w : View) (n : ℕ) (b : BlockKey) (voxels : List Voxel) → HasWeightsWithin n voxels → HasWeightsWithin n (updated w n b voxels)
