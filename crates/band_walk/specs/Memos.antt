-- A memo of keys, as contracts see it: a list of words, and what is added to it and to a list of keys.
use Rattle.std.specs.Prelude.{◌≡◌, ℕ, ◌<◌, ◌⊎◌, List, length, slice_index, Some, Contains}
use Rattle.voxel_block.specs.declared.key.BlockKey.{BlockKey}
use Rattle.voxel_block.specs.Words.{key_of}

-- a key is noted in a memo: one of its words is the key's
pub record IsNoted (memo : List ℕ) (b : BlockKey) : Type 0 where
  pub at : ℕ
  pub inside : at < length memo
  pub is : key_of (slice_index memo at) ≡ Some b

-- what is noted in the new memo was noted in the old one or is among the new keys, and each old key is among them
pub record IsGrown (memo : List ℕ) (keys : List BlockKey) (memo' : List ℕ) (keys' : List BlockKey) : Type 0 where
  pub noted : (b : BlockKey) → IsNoted memo' b → IsNoted memo b ⊎ Contains keys' b
  pub kept : (b : BlockKey) → Contains keys b → Contains keys' b

-- some blocks were added: each was noted in the old memo or is among the new keys, and a key that is new is one of theirs
pub record HasAdded (blocks : List BlockKey) (memo : List ℕ) (keys : List BlockKey) (memo' : List ℕ) (keys' : List BlockKey) : Type 0 where
  pub found : (b : BlockKey) → Contains blocks b → IsNoted memo b ⊎ Contains keys' b
  pub only : (b : BlockKey) → Contains keys' b → Contains keys b ⊎ Contains blocks b
  pub grown : IsGrown memo keys memo' keys'
