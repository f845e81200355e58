-- The pixel coordinate of a point, by a centre that has a half pixel added.
use Rattle.std.specs.Prelude.{ℤ, pos, ◌+ℤ◌, ◌*ℤ◌}
use Rattle.fixed_geom.specs.Division.{floor_div}

-- the pixel nearest to where a point in front of the camera projects, on one axis; k is the centre and a half, in 1/65536 pixel
abbrev pub raised_pixel : (f k x z : ℤ) → ℤ
raised_pixel f k x z = floor_div (f *ℤ x +ℤ k *ℤ z) (pos 65536 *ℤ z)
