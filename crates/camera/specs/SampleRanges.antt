-- The samples that a camera takes, as a range.
use Rattle.std.specs.Prelude.{◌≡◌, ℤ, pos, ◌-ℤ◌}
use Rattle.fixed_geom.specs.Division.{IsFloor}
use Rattle.camera.specs.declared.camera.CameraFields.{CameraFields}
use Rattle.camera.specs.Cameras.{HasRanges}

-- a sample of 1 has the camera's unit as its depth, and a sample from least to most has a depth from near to far
pub record IsRangeOf (k : CameraFields) (unit least most : ℤ) : Type 0 where
  pub ranges : HasRanges k
  pub same_unit : unit ≡ k.unit
  pub low : IsFloor (k.near -ℤ pos 1) k.unit (least -ℤ pos 1)
  pub high : IsFloor k.far k.unit most
