-- How far a voxel, or a point, is from the centre of its block.
use Rattle.std.proofs.Common.{◌≡◌, ◌<◌, ℕ, sym, ap, ◌∙◌, arith}
use Rattle.std.specs.Prelude.{ℤ, pos, ◌+ℤ◌, ◌-ℤ◌, ◌*ℤ◌, ◌≤ℤ◌}
use Rattle.std.proofs.lemmas.Int.{ints}
use Rattle.fixed_geom.specs.Vectors.{IsWithin, AreWithin, minus}
use Rattle.fixed_geom.specs.Poses.{Pose, cam, HasPoseRange}
use Rattle.fixed_geom.proofs.Whole.{difference_mul}
use Rattle.fixed_geom.proofs.Dots.{within_product}
use Rattle.fixed_geom.proofs.Steps.{step_of_four}
use Rattle.voxel_block.specs.declared.key.BlockKey.{BlockKey}
use Rattle.voxel_block.specs.Blocks.{offset_of}
use Rattle.voxel_block.proofs.Blocks.{offset_inside}
use Rattle.camera.specs.Grid.{point_of, centre_of}

-- an offset in a block, on one axis
pub record IsLocal (x : ℤ) : Type 0 where
  pub low : pos 0 ≤ℤ x
  pub high : x ≤ℤ pos 7

local_offset : (n : ℕ) → n < 8 → IsLocal (pos n)
local_offset n h = record { low = omega (arith, ints); high = omega (arith, ints) }

-- a voxel's point less its block's centre, on one axis
offset_axis_is : (s b x : ℤ) → (pos 8 *ℤ b +ℤ x) *ℤ s -ℤ (pos 8 *ℤ b +ℤ pos 4) *ℤ s ≡ (x -ℤ pos 4) *ℤ s
offset_axis_is s b x = sym (difference_mul (pos 8 *ℤ b +ℤ x) (pos 8 *ℤ b +ℤ pos 4) s) ∙ ap (λ (z : ℤ). z *ℤ s) (less (pos 8 *ℤ b) x)
  where
    less : (n x : ℤ) → (n +ℤ x) -ℤ (n +ℤ pos 4) ≡ x -ℤ pos 4
    less n x = omega (arith, ints)

moved : (n x y : ℤ) → y ≡ x → IsWithin n x → IsWithin n y
moved n x y e w = record { low = omega (arith, ints); high = omega (arith, ints) }

itself : (s : ℤ) → pos 0 ≤ℤ s → IsWithin s s
itself s h = record { low = omega (arith, ints); high = omega (arith, ints) }

pub offset_axis_within : (s b x : ℤ) → pos 0 ≤ℤ s → IsLocal x → IsWithin (pos 4 *ℤ s) ((pos 8 *ℤ b +ℤ x) *ℤ s -ℤ (pos 8 *ℤ b +ℤ pos 4) *ℤ s)
offset_axis_within s b x h o = moved (pos 4 *ℤ s) ((x -ℤ pos 4) *ℤ s) ((pos 8 *ℤ b +ℤ x) *ℤ s -ℤ (pos 8 *ℤ b +ℤ pos 4) *ℤ s) (offset_axis_is s b x) (within_product (pos 4) s (x -ℤ pos 4) s (four x o) (itself s h))
  where
    four : (x : ℤ) → IsLocal x → IsWithin (pos 4) (x -ℤ pos 4)
    four x o = record { low = omega (arith, ints); high = omega (arith, ints) }

-- a voxel of a block is within 4 s of its centre
pub voxel_and_centre : (s : ℤ) (b : BlockKey) (i : ℕ) → pos 0 ≤ℤ s → i < 512 → AreWithin (pos 4 *ℤ s) (minus (point_of s b i) (centre_of s b))
voxel_and_centre s b i h below =
    let o = offset_of i in
    let inside = offset_inside i below in
    record {
      x = offset_axis_within s b.x (pos o.x) h (local_offset o.x inside.x);
      y = offset_axis_within s b.y (pos o.y) h (local_offset o.y inside.y);
      z = offset_axis_within s b.z (pos o.z) h (local_offset o.z inside.z);
    }

-- the camera points of a voxel and of its block's centre are within 13 s
pub voxel_step : (m : Pose) (s : ℤ) (b : BlockKey) (i : ℕ) → HasPoseRange m → pos 0 ≤ℤ s → i < 512 → AreWithin (pos 13 *ℤ s) (minus (cam m (point_of s b i)) (cam m (centre_of s b)))
voxel_step m s b i r h below = step_of_four m (point_of s b i) (centre_of s b) s r h (voxel_and_centre s b i h below)
