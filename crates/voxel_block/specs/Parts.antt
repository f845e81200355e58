-- The eight parts of a block, of 4 by 4 by 4 voxels, and which of them have a low voxel.
use Rattle.std.specs.Prelude.{◌≡◌, ℕ, ◌+◌, ◌*◌, ◌/◌, ◌<◌, pos, ◌≤ℤ◌, List, Some, slice_get}
use Rattle.voxel_block.specs.declared.voxel.Voxel.{Voxel}
use Rattle.voxel_block.specs.Blocks.{Offset, offset_of}

-- the part that these coordinates lie in: its half on x, twice that on y, four times that on z
abbrev pub part_at : Offset → ℕ
part_at o = o.x / 4 + 2 * (o.y / 4) + 4 * (o.z / 4)

-- the part that the voxel of an index lies in
abbrev pub part_of : ℕ → ℕ
part_of i = part_at (offset_of i)

-- the voxel of an index is low: its distance is at most 0
pub record IsLow (vs : List Voxel) (i : ℕ) : Type 0 where
  pub voxel : Voxel
  pub read : slice_get vs i ≡ Some voxel
  pub low : voxel.f ≤ℤ pos 0

-- a part has a low voxel
pub record HasLow (vs : List Voxel) (part : ℕ) : Type 0 where
  pub index : ℕ
  pub inside : part_of index ≡ part
  pub low : IsLow vs index

-- one of four numbers, the first of them and each `step` above the one before, has a property
pub record IsOneOfFour (P : ℕ → Type 0) (step first : ℕ) : Type 0 where
  pub nth : ℕ
  pub below : nth < 4
  pub holds : P (first + step * nth)

-- one of the 4 voxels from this index on along x is low
abbrev pub IsRowLow : List Voxel → ℕ → Type 0
IsRowLow vs = IsOneOfFour (IsLow vs) 1

-- one of the 4 by 4 voxels from this index on along x and y is low
abbrev pub IsLayerLow : List Voxel → ℕ → Type 0
IsLayerLow vs = IsOneOfFour (IsRowLow vs) 8

-- one of the 4 by 4 by 4 voxels from this index on is low
abbrev pub IsCubeLow : List Voxel → ℕ → Type 0
IsCubeLow vs = IsOneOfFour (IsLayerLow vs) 64
