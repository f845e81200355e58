-- The packed form of a block, in 1542 bytes. The most significant byte of a number comes first. The form is this
-- project's own.
use Rattle.std.specs.Prelude.{◌≡◌, ◌<◌, ◌≤◌, ℕ, ℤ, List, [], ◌∷◌, ◌++◌, length, take, drop, All, Some, slice_get, slice_index, FitsSigned}
use Rattle.std.specs.List.{flat_map}
use Rattle.std.specs.Int.{w16, cast_signed, cast_unsigned, from_be_bytes, to_be_bytes}
use Rattle.voxel_block.specs.declared.key.BlockKey.{BlockKey}
use Rattle.voxel_block.specs.declared.voxel.Voxel.{Voxel}
use Rattle.voxel_block.specs.Voxels.{IsVoxel}

-- ---- the form

-- a coordinate or a distance: 16 bits in two's complement
abbrev pub bytes_16 : ℤ → List ℕ
bytes_16 n = to_be_bytes w16 (cast_unsigned w16 n)

-- a key: x, then y, then z
abbrev pub key_bytes : BlockKey → List ℕ
key_bytes b = bytes_16 b.x ++ bytes_16 b.y ++ bytes_16 b.z

-- a voxel: its distance, then its weight in 8 bits
abbrev pub voxel_bytes : Voxel → List ℕ
voxel_bytes v = bytes_16 v.f ++ v.w ∷ []

-- a block: its key, then its voxels in the order of their indices
unfoldable pub packed : BlockKey → List Voxel → List ℕ
packed b vs = key_bytes b ++ flat_map voxel_bytes vs

-- ---- what bytes state

-- the number in two's complement that two bytes state
abbrev pub number_16 : ℕ → ℕ → ℤ
number_16 a b = cast_signed w16 (from_be_bytes w16 (a ∷ b ∷ []))

-- the voxels that bytes state, three bytes a voxel
abbrev pub voxels_from : List ℕ → List Voxel
voxels_from (a ∷ b ∷ w ∷ rest) = record { f = number_16 a b; w = w } ∷ voxels_from rest
voxels_from _ = []

-- the voxels of a packed form
unfoldable pub voxels_in : List ℕ → List Voxel
voxels_in bytes = voxels_from (drop 6 bytes)

-- the key of a packed form
unfoldable pub key_in : List ℕ → BlockKey
key_in bytes = record {
  x = number_16 (slice_index bytes 0) (slice_index bytes 1);
  y = number_16 (slice_index bytes 2) (slice_index bytes 3);
  z = number_16 (slice_index bytes 4) (slice_index bytes 5);
}

-- ---- which forms are taken

-- a key's coordinates have 16 bits each
pub record IsKey (b : BlockKey) : Type 0 where
  pub x : FitsSigned w16 b.x
  pub y : FitsSigned w16 b.y
  pub z : FitsSigned w16 b.z

-- what the type of a block keeps true of its voxels
pub record IsBlock (vs : List Voxel) : Type 0 where
  pub count : length vs ≡ 512
  pub voxels : All IsVoxel vs
  pub distances : All (λ v. FitsSigned w16 v.f) vs
  pub weights : All (λ v. v.w < 256) vs

-- a voxel that is allowed: it is one that a block may have, and its weight is not above the greatest
pub record IsAllowed (max_weight : ℕ) (v : Voxel) : Type 0 where
  pub voxel : IsVoxel v
  pub weight : v.w ≤ max_weight

-- the least index of a voxel that is not allowed
pub record IsFirstBad (max_weight : ℕ) (vs : List Voxel) (i : ℕ) : Type 0 where
  pub within : i < length vs
  pub bad : (v : Voxel) → slice_get vs i ≡ Some v → ¬ (IsAllowed max_weight v)
  pub before : All (IsAllowed max_weight) (take i vs)
