-- What a call does to the rows of a store.
use Rattle.std.specs.Prelude.{◌≡◌, List, length, set, cond, Option, Some, None, replicate}
use Rattle.std.specs.List.{IsDistinct}
use Rattle.std.specs.Map.{keys_of, lookup}
use Rattle.voxel_block.specs.declared.key.BlockKey.{BlockKey}
use Rattle.voxel_block.specs.declared.chunk.ChunkKey.{ChunkKey}
use Rattle.voxel_block.specs.Chunks.{chunk_of}
use Rattle.chunk_store.specs.Rows.{Held, Row, chunk_eq, place_of}

-- the rows of a store, each with its chunk
abbrev pub Rows : Type 0
Rows = List (ChunkKey × Row)

-- fs are the rows es, once the place of the key k in its row has another content
pub record Writes (es : Rows) (k : BlockKey) (row : Row) (place : Option Held) (fs : Rows) : Type 0 where
  pub there : lookup (chunk_eq (chunk_of k)) es ≡ Some row
  pub long : length row ≡ 512
  pub keys : keys_of fs ≡ keys_of es
  pub rows : (c : ChunkKey) → lookup (chunk_eq c) fs ≡ cond (chunk_eq (chunk_of k) c) (Some (set row (place_of k) place)) (lookup (chunk_eq c) es)

-- fs are the rows es and an empty row of the chunk c
pub record Opens (es : Rows) (c : ChunkKey) (fs : Rows) : Type 0 where
  pub absent : lookup (chunk_eq c) es ≡ None
  pub unique : IsDistinct chunk_eq (keys_of fs)
  pub rows : (q : ChunkKey) → lookup (chunk_eq q) fs ≡ cond (chunk_eq c q) (Some (replicate 512 None)) (lookup (chunk_eq q) es)
