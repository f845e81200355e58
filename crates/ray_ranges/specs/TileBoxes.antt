-- The tiles and points of a box.
use Rattle.std.specs.Prelude.{ℕ, ◌*◌, ◌/◌, ◌<◌, ◌≤◌, pos, unsigned_abs}
use Rattle.ray_ranges.specs.declared.boxes.PixelBox.{PixelBox}
use Rattle.ray_ranges.specs.declared.shape.Shape.{Shape}
use Rattle.ray_ranges.specs.Cubes.{IsFrom}
use Rattle.ray_ranges.specs.declared.tile_box.TileBox.{TileBox}

-- the ends of a box are natural numbers that fit 16 bits
pub record IsSmall (b : PixelBox) : Type 0 where
  pub left : IsFrom (pos 0) (pos 65535) b.columns.low
  pub right : IsFrom (pos 0) (pos 65535) b.columns.high
  pub top : IsFrom (pos 0) (pos 65535) b.rows.low
  pub bottom : IsFrom (pos 0) (pos 65535) b.rows.high
  pub first : IsFrom (pos 0) (pos 65535) b.points.low
  pub last : IsFrom (pos 0) (pos 65535) b.points.high

-- the tiles and points of a box
abbrev pub tiles_of : PixelBox → TileBox
tiles_of b = record {
  left = unsigned_abs b.columns.low / 8;
  right = unsigned_abs b.columns.high / 8;
  top = unsigned_abs b.rows.low / 8;
  bottom = unsigned_abs b.rows.high / 8;
  first = unsigned_abs b.points.low;
  last = unsigned_abs b.points.high;
}

-- the point j of the walk of pixel (u, v) is in the tiles and points
pub record IsInTiles (b : TileBox) (u v j : ℕ) : Type 0 where
  pub left : b.left ≤ u / 8
  pub right : u / 8 ≤ b.right
  pub top : b.top ≤ v / 8
  pub bottom : v / 8 ≤ b.bottom
  pub first : b.first ≤ j
  pub last : j ≤ b.last

-- the tiles and the points are those of a shape
pub record HasTiles (s : Shape) (b : TileBox) : Type 0 where
  pub right : b.right < s.across
  pub bottom : b.bottom < s.down
  pub order : b.first ≤ b.last
  pub last : b.last < s.slab * s.slabs
