-- Where the blocks of a map lie.
use Rattle.std.specs.Prelude.{◌≡◌, ℕ, ◌+◌, ◌<◌, ◌++◌, List, map, length, Option, Some, None, IsTrue, option_map}
use Rattle.std.specs.FinMap.{FinMap, contains_key, entries, from_entries, get, len}
use Rattle.voxel_block.specs.declared.key.BlockKey.{BlockKey}
use Rattle.voxel_block.specs.declared.voxel.Voxel.{Voxel}
use Rattle.voxel_block.specs.Keys.{key_cmp}
use Rattle.spatial_hash.specs.Table.{Table}
use Rattle.spatial_hash.specs.Contents.{contents}
use Rattle.block_heap.specs.Cells.{Cells}
use Rattle.streamer.specs.Owners.{block_in, owner_at}
use Rattle.chunk_store.specs.Store.{Stored}
use Rattle.voxel_block.specs.Packing.{IsBlock, IsKey, packed, voxels_in}

-- the hash that names the cells of the keys in the heap, the heap, and the store of packed blocks
pub record Places : Type 0 where
  pub table : Table
  pub heap : Cells
  pub store : Stored

-- the cell that the hash names for a key
abbrev pub cell_of : Table → BlockKey → Option ℕ
cell_of t k = get (contents t) k

-- the voxels in the heap of a key with this cell, if it has one
abbrev pub in_heap : Cells → (cell : Option ℕ) → Option (List Voxel)
in_heap h cell = option_map (block_in h) cell

-- the blocks in the heap: each key of the hash with the voxels of its cell
abbrev pub resident_blocks : Places → List (BlockKey × List Voxel)
resident_blocks p = map (λ e. (e.0, block_in p.heap e.1)) (entries (contents p.table))

-- the blocks in the store, unpacked
abbrev pub stored_blocks : Places → List (BlockKey × List Voxel)
stored_blocks p = map (λ e. (e.0, voxels_in e.1)) (entries p.store.contents)

-- the map of the blocks in the heap
unfoldable pub heap_blocks : Places → FinMap key_cmp (List Voxel)
heap_blocks p = from_entries (resident_blocks p)

-- the map that the places tell: each known key with its voxels
unfoldable pub blocks_of : Places → FinMap key_cmp (List Voxel)
blocks_of p = from_entries (resident_blocks p ++ stored_blocks p)

-- the bytes are the packed form of a block of this key
pub record IsPackedBlock (k : BlockKey) (bytes : List ℕ) : Type 0 where
  pub key : IsKey k
  pub block : IsBlock (voxels_in bytes)
  pub form : bytes ≡ packed k (voxels_in bytes)

-- what holds of all places
pub record IsPlaced (p : Places) : Type 0 where
  -- the cell that the hash names for a key is the key's
  pub found : (k : BlockKey) (n : ℕ) → cell_of p.table k ≡ Some n → owner_at p.heap n ≡ Some (k, block_in p.heap n)
  -- and the hash names each owned cell for its key
  pub owned : (k : BlockKey) (n : ℕ) (v : List Voxel) → owner_at p.heap n ≡ Some (k, v) → cell_of p.table k ≡ Some n
  -- no key of the hash is in the store
  pub apart : (k : BlockKey) → IsTrue (contains_key (contents p.table) k) → get p.store.contents k ≡ None
  -- what is stored at a key is the packed form of the key's block
  pub packed : (k : BlockKey) (bytes : List ℕ) → get p.store.contents k ≡ Some bytes → IsPackedBlock k bytes
  -- a cell is free or has a key
  pub count : length p.heap.free + len (contents p.table) ≡ length p.heap.cells
  -- so the hash always has a node for one more key
  pub room : length p.heap.cells < p.table.nodes
