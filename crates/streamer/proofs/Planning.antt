-- The number of active blocks that a plan counts.
use Rattle.std.proofs.Common.{◌≡◌, ℕ, ◌+◌, List, length, ap, ◌∙◌, arith}
use Rattle.std.specs.List.{count_by}
use Rattle.std.specs.FinMap.{keys}
use Rattle.std.proofs.lemmas.List.Sums.{length-filter}
use Rattle.fixed_geom.specs.Poses.{Pose}
use Rattle.voxel_block.specs.declared.key.BlockKey.{BlockKey}
use Rattle.camera.specs.declared.camera.CameraFields.{CameraFields}
use Rattle.camera.specs.Cameras.{is_active}
use Rattle.spatial_hash.specs.Contents.{contents}
use Rattle.spatial_hash.specs.Table.{Table}
use Rattle.streamer.specs.Places.{IsPlaced, Places}
use Rattle.streamer.specs.Plans.{entering, fresh_keys, need_of}
use Rattle.streamer.proofs.Counts.{count_blocks}

-- the active ones of the heap, those that enter and those that are fresh
pub need_is : (k : CameraFields) (m : Pose) (p : Places) (touched : Table) → IsPlaced p → (a e f : ℕ) (es fs : List BlockKey)
    → a ≡ count_by (is_active k m) (keys (contents p.table)) → e ≡ length es → es ≡ entering k m p → f ≡ count_by (is_active k m) fs → fs ≡ fresh_keys p touched → a + e + f ≡ need_of k m p touched
need_is k m p touched placed a e f es fs ha he hes hf hfs =
    let known = count_blocks (is_active k m) p placed in
    let entered : e ≡ count_by (is_active k m) (keys p.store.contents) = he ∙ ap length hes ∙ length-filter (is_active k m) (keys p.store.contents) in
    let fresh : f ≡ count_by (is_active k m) (fresh_keys p touched) = hf ∙ ap (count_by (is_active k m)) hfs in
    omega (arith, known, ha, entered, fresh)
