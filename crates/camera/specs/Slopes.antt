-- The slopes of a camera's rays: a coordinate of a ray's point by a product.
use Rattle.std.specs.Prelude.{ℕ, ◌<◌, List, length, slice_index_or, ℤ, pos, ◌-ℤ◌, ◌*ℤ◌, ◌≤ℤ◌}
use Rattle.fixed_geom.specs.Division.{IsFloor}
use Rattle.fixed_geom.specs.Vectors.{IsWithin}

-- a slope of a pixel that lies `offset` from the centre: a little more than 2^64 times the offset, divided by a number
pub record IsSlope (offset by slope : ℤ) : Type 0 where
  pub floor : IsFloor (offset *ℤ pos 18446744073709551616) by (slope -ℤ pos 1)
  pub bound : IsWithin (pos 36028797018963968) slope

-- the slopes of the pixels along an axis with the centre c
abbrev pub AreSlopes : (c by : ℤ) → List ℤ → Type 0
AreSlopes c by slopes = (u : ℕ) → u < length slopes → IsSlope (pos 65536 *ℤ pos u -ℤ c) by (slice_index_or slopes u (pos 0))

-- the unit of the slopes on an axis with a focal length: their product is at most 2^38, and more than half of it
pub record IsUnit (focal unit : ℤ) : Type 0 where
  pub focal_least : pos 1 ≤ℤ focal
  pub least : pos 1 ≤ℤ unit
  pub high : unit ≤ℤ pos 274877906944
  pub product : (focal *ℤ unit) ≤ℤ pos 274877906944
