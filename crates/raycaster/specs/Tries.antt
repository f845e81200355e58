-- The points of a walk that are tried: a hit between two points is looked for at the second one, where it ends.
use Rattle.std.specs.Prelude.{ℕ, ◌≡◌, ◌+◌, ◌<◌, Bool, true, false, ℤ, pos, int_le, Option, None, Some, List}
use Rattle.camera.specs.declared.camera.CameraFields.{CameraFields}
use Rattle.ray_ranges.specs.declared.point_range.PointRange.{PointRange}
use Rattle.ray_ranges.specs.Tiles.{HasPoint, range_at}
use Rattle.raycaster.specs.Walk.{is_hit, sample_at}

-- whether a value is known and at most 0
abbrev pub is_low : Option ℤ → Bool
is_low None = false
is_low (Some f) = int_le f (pos 0)

-- each hit of a walk ends at a point of some range
pub record EndsIn (w : List (Option ℤ)) (ranges : List PointRange) (j : ℕ) : Type 0 where
  pub at : ℕ
  pub point : HasPoint (range_at ranges at) (j + 1)

abbrev pub HaveAllEnds : List (Option ℤ) → List PointRange → Type 0
HaveAllEnds w ranges = (j : ℕ) → is_hit w j ≡ true → EndsIn w ranges j

-- the points of a range come before those of the ranges after it
abbrev pub AreAscending : List PointRange → Type 0
AreAscending ranges = (a b i j : ℕ) → a < b → HasPoint (range_at ranges a) i → HasPoint (range_at ranges b) j → i < j

-- no hit of a walk ends at a point of the range
abbrev pub HasNoEnd : List (Option ℤ) → PointRange → Type 0
HasNoEnd w r = (j : ℕ) → HasPoint r (j + 1) → is_hit w j ≡ false

-- this is the sample of the first hit that ends at a point of the range
pub record IsFirstEnd (k : CameraFields) (w : List (Option ℤ)) (r : PointRange) (sample : ℕ) : Type 0 where
  pub at : ℕ
  pub point : HasPoint r (at + 1)
  pub is : is_hit w at ≡ true
  pub before : (j : ℕ) → j < at → HasPoint r (j + 1) → is_hit w j ≡ false
  pub value : sample ≡ sample_at k w (Some at)
