-- What a walk has of ranges: for each slab of points one range, of the points that are to be tried.
use Rattle.std.specs.Prelude.{ℕ, ◌+◌, ◌*◌, ◌/◌, ◌<◌, ◌≤◌, List, slice_index_or}
use Rattle.ray_ranges.specs.declared.point_range.PointRange.{PointRange}

-- a range without a point
abbrev pub no_points : PointRange
no_points = record { first = 65535; last = 0 }

-- the range has the point j
pub record HasPoint (r : PointRange) (j : ℕ) : Type 0 where
  pub first_low : r.first ≤ j
  pub last_high : j ≤ r.last

-- the range of slab w of a tile; none past the last slab
abbrev pub range_at : List PointRange → (w : ℕ) → PointRange
range_at tile w = slice_index_or tile w no_points

-- the tile has the point j in the range of its slab, where a slab has n points
abbrev pub TileHas : List PointRange → (n j : ℕ) → Type 0
TileHas tile n j = HasPoint (range_at tile (j / n)) j

-- each range stays in its slab, where a slab has n points
pub record AreInSlabs (tile : List PointRange) (n : ℕ) : Type 0 where
  pub inside : (w j : ℕ) → HasPoint (range_at tile w) j → (n * w ≤ j) × (j < n * (w + 1))
