-- The ranges of all tiles of a picture.
use Rattle.std.specs.Prelude.{ℕ, ◌≡◌, ◌+◌, ◌*◌, ◌/◌, ◌<◌, ◌≤◌, min, max, List, length, slice_range}
use Rattle.fixed_geom.specs.Poses.{Pose}
use Rattle.camera.specs.declared.camera.CameraFields.{CameraFields}
use Rattle.ray_walk.specs.Points.{point_count}
use Rattle.ray_ranges.specs.declared.point_range.PointRange.{PointRange}
use Rattle.ray_ranges.specs.declared.shape.Shape.{Shape}
use Rattle.ray_ranges.specs.Slabs.{slab_of, slab_count, tile_count}
use Rattle.ray_ranges.specs.Tiles.{HasPoint, TileHas, range_at}

-- a camera at a pose, and a range for each slab of each tile of 8 by 8 pixels, by tile row, tile column and slab
pub record Table : Type 0 where
  pub camera : CameraFields
  pub pose : Pose
  pub shape : Shape
  pub list : List PointRange

-- the shape for a camera
pub record IsShape (k : CameraFields) (s : Shape) : Type 0 where
  pub slab : s.slab ≡ slab_of (point_count k)
  pub slabs : s.slabs ≡ slab_count (point_count k) s.slab
  pub across : s.across ≡ tile_count k.width
  pub down : s.down ≡ tile_count k.height

-- the number of the tile in column c and row r of the tiles
abbrev pub tile_number : Shape → (c r : ℕ) → ℕ
tile_number s c r = r * s.across + c

-- the ranges of the tile of a number
abbrev pub tile_at : Shape → List PointRange → (t : ℕ) → List PointRange
tile_at s list t = slice_range list (t * s.slabs) (t * s.slabs + s.slabs)

-- the ranges of the tile that has the pixel (u, v)
abbrev pub tile_of : Table → (u v : ℕ) → List PointRange
tile_of t u v = tile_at t.shape t.list (tile_number t.shape (u / 8) (v / 8))

-- the point j of the walk of pixel (u, v) is to be tried
abbrev pub RangesHave : Table → (u v j : ℕ) → Type 0
RangesHave t u v j = TileHas (tile_of t u v) t.shape.slab j

-- the least range that has the points of a range, and those from first to last
abbrev pub joined : PointRange → (first last : ℕ) → PointRange
joined r first last = record { first = min r.first first; last = max r.last last }

-- both ends of a range are in slab w, or the range has no point, where a slab has n points
pub record IsInSlab (n w : ℕ) (r : PointRange) : Type 0 where
  pub first : n * w ≤ r.first
  pub last : r.last < n * (w + 1)

-- so it is of each range of each tile
abbrev pub AreRanges : Shape → List PointRange → Type 0
AreRanges s list = (t w : ℕ) → w < s.slabs → t * s.slabs + w < length list → IsInSlab s.slab w (range_at list (t * s.slabs + w))

-- ranges that were widened: each has what it had, and stays in its slab
pub record IsWidened (s : Shape) (old new : List PointRange) : Type 0 where
  pub same : length new ≡ length old
  pub kept : (i j : ℕ) → HasPoint (range_at old i) j → HasPoint (range_at new i) j
  pub stay : AreRanges s old → AreRanges s new

-- the tile t has the points from first to last
abbrev pub HasPoints : Shape → List PointRange → (t first last : ℕ) → Type 0
HasPoints s list t first last = (j : ℕ) → first ≤ j → j ≤ last → HasPoint (range_at list (t * s.slabs + j / s.slab)) j

-- what holds of a table
pub record IsTable (t : Table) : Type 0 where
  pub shape : IsShape t.camera t.shape
  pub size : length t.list ≡ t.shape.down * t.shape.across * t.shape.slabs
  pub ranges : AreRanges t.shape t.list
