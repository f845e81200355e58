-- Room for a frame: what is made ready before the first block moves.
use Rattle.std.specs.Prelude.{◌≡◌, ◌≤◌, ◌+◌, ◌&&◌, not, IsTrue, length}
use Rattle.std.specs.FinMap.{contains_key, len}
use Rattle.std.specs.FinSet.{contains}
use Rattle.std.specs.List.{IsDistinct, list_any}
use Rattle.voxel_block.specs.declared.key.BlockKey.{BlockKey}
use Rattle.voxel_block.specs.Chunks.{chunk_of}
use Rattle.voxel_block.specs.Keys.{same_key}
use Rattle.spatial_hash.specs.Contents.{contents}
use Rattle.spatial_hash.specs.Table.{KeepsSize}
use Rattle.band_walk.specs.Bands.{band}
use Rattle.streamer.specs.Places.{IsPlaced, Places, blocks_of}
use Rattle.streamer.specs.Plans.{entering, leaving, staying}
use Rattle.streamer.specs.declared.plan.Plan.{Plan}
use Rattle.fusion_core.specs.Frames.{Frame, view}
use Rattle.session.specs.declared.room.Ready.{Ready}

-- ---- a frame's plan

-- the plan of a frame: the keys of its band are touched
pub record IsFramePlan (f : Frame) (p : Places) (plan : Plan) : Type 0 where
  pub leave : plan.leave.items ≡ leaving f.camera f.pose p
  pub enter : plan.enter.items ≡ entering f.camera f.pose p
  pub stay : plan.stay.items ≡ staying f.camera f.pose p
  -- the fresh keys are those of the band that are not known, each once
  pub fresh : (b : BlockKey) → list_any (same_key b) plan.fresh.items ≡ (list_any (same_key b) (band (view f)) && not (contains_key (blocks_of p) b))
  pub once : IsDistinct same_key plan.fresh.items
  -- the heap has cells for those that enter and the fresh ones
  pub room : len (contents p.table) + length plan.enter.items + length plan.fresh.items ≤ length p.heap.cells + length plan.leave.items

-- a frame is ready: there is packed form for each block that leaves, and its chunk is opened
pub record IsReady (f : Frame) (p : Places) (ready : Ready) : Type 0 where
  pub plan : IsFramePlan f p ready.plan
  pub packs : length ready.packs.items ≡ length ready.plan.leave.items
  pub opened : (b : BlockKey) → IsTrue (list_any (same_key b) ready.plan.leave.items) → IsTrue (contains p.store.opened (chunk_of b))

-- ---- places

-- no block moved; chunks of the store may have been opened
pub record StaysPut (old new : Places) : Type 0 where
  pub table : new.table ≡ old.table
  pub heap : new.heap ≡ old.heap
  pub contents : new.store.contents ≡ old.store.contents

-- blocks moved between the heap and the store: the map is the same, and the heap and the hash have their sizes
pub record Moves (old new : Places) : Type 0 where
  pub blocks : blocks_of new ≡ blocks_of old
  pub cells : length new.heap.cells ≡ length old.heap.cells
  pub size : KeepsSize old.table new.table
  pub opened : new.store.opened ≡ old.store.opened
  pub placed : IsPlaced new

-- the hash and the store are as they were, and the heap has as many cells
pub record StaysInPlace (old new : Places) : Type 0 where
  pub table : new.table ≡ old.table
  pub store : new.store ≡ old.store
  pub cells : length new.heap.cells ≡ length old.heap.cells
  pub placed : IsPlaced new
