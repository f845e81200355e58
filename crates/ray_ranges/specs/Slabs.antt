-- The slabs that points are put into, and the tiles that pixels are put into.
use Rattle.std.specs.Prelude.{ℕ, ◌+◌, ◌-◌, ◌/◌, nat_le, if◌then◌else◌, ℤ, unsigned_abs}

-- the points of a slab, where a walk has so many points: the least of 64, 128, 256 and 512 that gives at most 32 slabs
abbrev pub slab_of : (points : ℕ) → ℕ
slab_of n = if nat_le n 2048 then 64 else if nat_le n 4096 then 128 else if nat_le n 8192 then 256 else 512

-- the slabs of n points that so many points need
abbrev pub slab_count : (points n : ℕ) → ℕ
slab_count points n = (points + n - 1) / n

-- the tiles that a row or a column of so many pixels needs
abbrev pub tile_count : (pixels : ℤ) → ℕ
tile_count pixels = (unsigned_abs pixels + 7) / 8
