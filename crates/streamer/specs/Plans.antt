-- Which blocks move for a frame, and which stay.
use Rattle.std.specs.Prelude.{◌≡◌, ℕ, ◌+◌, ◌<◌, ◌&&◌, not, List, length, ⊤}
use Rattle.std.specs.List.{count_by, filter}
use Rattle.std.specs.FinMap.{contains_key, keys}
use Rattle.fixed_geom.specs.Poses.{Pose}
use Rattle.voxel_block.specs.declared.key.BlockKey.{BlockKey}
use Rattle.camera.specs.declared.camera.CameraFields.{CameraFields}
use Rattle.camera.specs.Cameras.{is_active}
use Rattle.camera.specs.Visibility.{is_visible}
use Rattle.spatial_hash.specs.Contents.{contents}
use Rattle.spatial_hash.specs.Table.{Table}
use Rattle.streamer.specs.Places.{Places, blocks_of}
use Rattle.streamer.specs.declared.plan.Plan.{Plan}
use Rattle.streamer.specs.declared.plan.PlanError.{PlanError}
use Rattle.streamer.specs.declared.plan.PlanError.TheVariants.{HeapSpent, NoMemory}

-- the keys of the heap whose blocks are not active
abbrev pub leaving : CameraFields → Pose → Places → List BlockKey
leaving k m p = filter (λ b. not (is_active k m b)) (keys (contents p.table))

-- the keys of the store whose blocks are active
abbrev pub entering : CameraFields → Pose → Places → List BlockKey
entering k m p = filter (is_active k m) (keys p.store.contents)

-- the touched keys that are not known
abbrev pub fresh_keys : Places → (touched : Table) → List BlockKey
fresh_keys p touched = filter (λ b. not (contains_key (blocks_of p) b)) (keys (contents touched))

-- the keys of the heap whose blocks are active and may be seen
abbrev pub staying : CameraFields → Pose → Places → List BlockKey
staying k m p = filter (λ b. is_active k m b && is_visible k m b) (keys (contents p.table))

-- how many known and touched keys, each once, have active blocks
abbrev pub need_of : CameraFields → Pose → Places → (touched : Table) → ℕ
need_of k m p touched = count_by (is_active k m) (keys (blocks_of p)) + count_by (is_active k m) (fresh_keys p touched)

-- the plan of a frame of this camera and pose, for places and a table of touched keys
pub record IsPlan (k : CameraFields) (m : Pose) (p : Places) (touched : Table) (plan : Plan) : Type 0 where
  pub leave : plan.leave.items ≡ leaving k m p
  pub enter : plan.enter.items ≡ entering k m p
  pub fresh : plan.fresh.items ≡ fresh_keys p touched
  pub stay : plan.stay.items ≡ staying k m p
  pub need : plan.need ≡ need_of k m p touched

-- what an error says: more blocks would be active than the heap has cells, or it is out of memory
abbrev pub SaysWhy : CameraFields → Pose → Places → (touched : Table) → PlanError → Type 0
SaysWhy k m p touched (HeapSpent need) = (need ≡ need_of k m p touched) × (length p.heap.cells < need)
SaysWhy k m p touched NoMemory = ⊤
