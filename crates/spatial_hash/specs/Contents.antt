-- A table as a map from keys to cells.
use Rattle.std.specs.Prelude.{◌≡◌, ℕ, zero, suc, ◌+◌, List, [], slice_index, Option, Some, Bool, ◌<◌}
use Rattle.std.specs.Option.{option_map}
use Rattle.std.specs.List.{cons_option}
use Rattle.std.specs.FinMap.{FinMap, from_entries}
use Rattle.voxel_block.specs.declared.key.BlockKey.{BlockKey}
use Rattle.voxel_block.specs.Keys.{key_cmp, same_key}
use Rattle.voxel_block.specs.Words.{key_of}
use Rattle.spatial_hash.specs.Table.{Table, entries_in, key_word}

-- the key and the cell of entry e, where it is filled
abbrev pub pair_at : Table → ℕ → Option (BlockKey × ℕ)
pair_at t e = option_map (λ k. (k, slice_index t.cells e)) (key_of (key_word t e))

-- those of n entries from e on
unfoldable pub pairs_from : ℕ → Table → ℕ → List (BlockKey × ℕ)
pairs_from zero t e = []
pairs_from (suc n) t e = cons_option (pair_at t e) (pairs_from n t (e + 1))

-- the map from the key of each filled entry to its cell
unfoldable pub contents : Table → FinMap key_cmp ℕ
contents t = from_entries (pairs_from (entries_in t) t 0)

-- two pairs have one key
abbrev pub tied : BlockKey × ℕ → BlockKey × ℕ → Bool
tied p q = same_key p.0 q.0

-- entry e has this key
pub record IsKeyAt (t : Table) (k : BlockKey) (e : ℕ) : Type 0 where
  pub low : e < entries_in t
  pub filled : 0 < key_word t e
  pub key : key_of (key_word t e) ≡ Some k
