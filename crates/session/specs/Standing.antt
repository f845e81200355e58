-- Where the blocks of a session lie between its calls.
use Rattle.std.specs.Prelude.{◌≡◌, ◌↔◌, ◌&&◌, ℕ, ◌+◌, ◌*◌, IsTrue, List, length, Some, None, ◌⊎◌}
use Rattle.std.specs.FinMap.{get, contains_key, empty}
use Rattle.voxel_block.specs.declared.key.BlockKey.{BlockKey}
use Rattle.voxel_block.specs.declared.voxel.Voxel.{Voxel}
use Rattle.voxel_block.specs.Packing.{packed}
use Rattle.spatial_hash.specs.Contents.{contents}
use Rattle.spatial_hash.specs.Table.{Table}
use Rattle.streamer.specs.Owners.{owner_at}
use Rattle.streamer.specs.Places.{Places, IsPlaced, blocks_of, cell_of}
use Rattle.fusion_core.specs.Laws.{HasKeysInReach, HasMapWeightsWithin, IsSound}
use Rattle.scan_lang.specs.Config.{Config}
use Rattle.session.specs.declared.scratch.Scratch.{Scratch}
use Rattle.session.specs.Answers.{SessionView, state_of}
use Rattle.session.specs.Fold.{settings_of, is_active_last}

-- the block of a key lies in the store, and in no cell
pub record IsStored (p : Places) (b : BlockKey) : Type 0 where
  pub form : (bytes : List ℕ) × (get p.store.contents b ≡ Some bytes)
  pub no_cell : (n : ℕ) (v : List Voxel) → owner_at p.heap n ≡ Some (b, v) → ⊥

-- the block of a key is resident: it lies in exactly one cell, and not in the store
pub record IsResident (p : Places) (b : BlockKey) : Type 0 where
  pub unstored : get p.store.contents b ≡ None
  pub cell : (n : ℕ) × (v : List Voxel) × (owner_at p.heap n ≡ Some (b, v))
  pub only : (m n : ℕ) (v w : List Voxel) → owner_at p.heap m ≡ Some (b, v) → owner_at p.heap n ≡ Some (b, w) → m ≡ n

-- the hash has the configuration's buckets, and two nodes for each cell of the heap and 65 more
pub record HasSizeOf (c : Config) (t : Table) : Type 0 where
  pub buckets : t.buckets ≡ c.buckets
  pub nodes : t.nodes ≡ 2 * c.heap_blocks + 65

-- what a frame works with is made for a configuration: the slopes are those of the camera's pixels
pub record IsScratchOf (c : Config) (s : Scratch) : Type 0 where
  pub slopes : s.slopes.fields ≡ c.camera

-- what holds of a session between its calls
pub record Stands (h : SessionView) : Type 0 where
  -- the block of each key of the map lies in just one place
  pub one_place : (b : BlockKey) → IsTrue (contains_key (blocks_of h.places) b) → IsStored h.places b ⊎ IsResident h.places b
  -- the store has keys of the map alone, and every owned cell is for one
  pub store : (b : BlockKey) → IsTrue (contains_key h.places.store.contents b) → IsTrue (contains_key (blocks_of h.places) b)
  pub owners : (b : BlockKey) (n : ℕ) (v : List Voxel) → owner_at h.places.heap n ≡ Some (b, v) → IsTrue (contains_key (blocks_of h.places) b)
  -- what lies in the store is the packed form of what the map has at its key, and what lies in a cell is that itself
  pub in_store : (b : BlockKey) (bytes : List ℕ) → get h.places.store.contents b ≡ Some bytes → (v : List Voxel) × (get (blocks_of h.places) b ≡ Some v) × (bytes ≡ packed b v)
  pub in_cell : (b : BlockKey) (n : ℕ) (v : List Voxel) → owner_at h.places.heap n ≡ Some (b, v) → get (blocks_of h.places) b ≡ Some v
  -- the keys in the heap are the keys of the map that are active for the last frame
  pub active : (b : BlockKey) → contains_key (contents h.places.table) b ≡ (contains_key (blocks_of h.places) b && is_active_last h.config.camera h.last b)
  -- the hash names each key's cell: a cell that it names for a key is the key's, and it names each owned cell
  pub found : (b : BlockKey) (n : ℕ) → cell_of h.places.table b ≡ Some n → (v : List Voxel) × (owner_at h.places.heap n ≡ Some (b, v))
  pub named : (b : BlockKey) (n : ℕ) (v : List Voxel) → owner_at h.places.heap n ≡ Some (b, v) → cell_of h.places.table b ≡ Some n
  -- the heap has as many cells as the configuration says, and the hash as many buckets and nodes
  pub cells : length h.places.heap.cells ≡ h.config.heap_blocks
  pub size : HasSizeOf h.config h.places.table
  -- the map is empty where there is no last frame, and the number of frames is 0 exactly there
  pub empty : h.last ≡ None → blocks_of h.places ≡ empty
  pub frames : (h.frames ≡ 0) ↔ (h.last ≡ None)
  -- no weight of the map is above the greatest one
  pub weights : HasMapWeightsWithin h.config.max_weight (blocks_of h.places)
  -- 8 voxels times each coordinate of a known key is at most 2^30 either way
  pub reach : HasKeysInReach h.config.camera.voxel (blocks_of h.places)

-- what the session's type keeps, of which the rest follows
pub record IsSettled (h : SessionView) : Type 0 where
  pub placed : IsPlaced h.places
  pub sound : IsSound (settings_of h.config) (state_of h)
  pub active : (b : BlockKey) → contains_key (contents h.places.table) b ≡ (contains_key (blocks_of h.places) b && is_active_last h.config.camera h.last b)
  pub cells : length h.places.heap.cells ≡ h.config.heap_blocks
  pub size : HasSizeOf h.config h.places.table
