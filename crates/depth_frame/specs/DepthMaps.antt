-- A depth map as contracts see it.
use Rattle.std.specs.Prelude.{ℕ, ◌+◌, ◌*◌, List, slice_index}

-- a width, a height, and the samples row by row
pub record DepthMap : Type 0 where
  pub width : ℕ
  pub height : ℕ
  pub raw : List ℕ

-- the sample in column u of row v
abbrev pub sample_at : DepthMap → ℕ → ℕ → ℕ
sample_at p u v = slice_index p.raw (u + p.width * v)

-- the depth map of these sides and samples
abbrev pub depth_map_of : (width height : ℕ) → (raw : List ℕ) → DepthMap
depth_map_of width height raw = record { width = width; height = height; raw = raw }
