-- The packed blocks that a store holds.
use Rattle.std.specs.Prelude.{◌≡◌, ℕ, List, map, Some}
use Rattle.std.specs.FinMap.{FinMap, from_entries, len}
use Rattle.std.specs.FinSet.{FinSet, from_list, union}
use Rattle.std.specs.List.{AllByRecursion, flat_map, IsDistinct}
use Rattle.std.specs.Map.{keys_of, lookup}
use Rattle.voxel_block.specs.declared.chunk.ChunkKey.{ChunkKey}
use Rattle.voxel_block.specs.Keys.{key_cmp}
use Rattle.voxel_block.specs.declared.key.BlockKey.{BlockKey}
use Rattle.voxel_block.specs.Chunks.{chunk_cmp, chunk_of}
use Rattle.chunk_store.specs.Rows.{Held, IsRow, Row, chunk_eq, held_in}

-- the packed bytes of each held key, and the chunks that have places for their keys
pub record Stored : Type 0 where
  pub contents : FinMap key_cmp (List ℕ)
  pub opened : FinSet chunk_cmp

-- what all rows hold
abbrev pub held_of : List (ChunkKey × Row) → List Held
held_of es = flat_map (λ e. held_in e.1) es

-- the keys of what all rows hold
abbrev pub all_keys : List (ChunkKey × Row) → List BlockKey
all_keys es = keys_of (held_of es)

-- each row is one of its chunk
abbrev pub AreOfChunks : List (ChunkKey × Row) → Type 0
AreOfChunks es = AllByRecursion (λ e. IsRow e.0 e.1) es

-- what the rows hold, as a map
unfoldable pub contents_of : List (ChunkKey × Row) → FinMap key_cmp (List ℕ)
contents_of es = from_entries (held_of es)

-- the chunks that have a row
unfoldable pub opened_of : List (ChunkKey × Row) → FinSet chunk_cmp
opened_of es = from_list (keys_of es)

-- what a store with these rows holds
abbrev pub stored : List (ChunkKey × Row) → Stored
stored es = record { contents = contents_of es; opened = opened_of es }

-- what holds of the rows and the count of each store
pub record IsStore (es : List (ChunkKey × Row)) (n : ℕ) : Type 0 where
  pub unique : IsDistinct chunk_eq (keys_of es)
  pub rows : (c : ChunkKey) (row : Row) → lookup (chunk_eq c) es ≡ Some row → IsRow c row
  pub count : n ≡ len (contents_of es)

-- these chunks and those of the keys
abbrev pub opened_with : FinSet chunk_cmp → List BlockKey → FinSet chunk_cmp
opened_with s ks = union s (from_list (map chunk_of ks))
