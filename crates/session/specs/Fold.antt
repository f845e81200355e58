-- What a scan's entries do, one after another, and what is answered.
use Rattle.std.specs.Prelude.{ℕ, ◌-◌, ◌^◌, ℤ, pos, neg_ℤ, ◌+ℤ◌, Bool, false, not, ◌&&◌, if◌then◌else◌, List, length, Option, None, Some, Result, Ok, Err}
use Rattle.std.specs.Int.{int_min, int_max}
use Rattle.std.specs.List.{flat_map, filter_map, enumerate_from, sum_by, fold}
use Rattle.std.specs.FinMap.{contains_key, get, len, entries, retain_keys}
use Rattle.fixed_geom.specs.Poses.{Pose}
use Rattle.fixed_geom.specs.declared.pose.PoseRows.{PoseRows}
use Rattle.fixed_geom.specs.declared.pose.BadPose.TheVariants as poses
use Rattle.voxel_block.specs.declared.key.BlockKey.{BlockKey}
use Rattle.voxel_block.specs.declared.voxel.Voxel.{Voxel}
use Rattle.voxel_block.specs.Voxels.{is_known}
use Rattle.depth_frame.specs.DepthMaps.{DepthMap}
use Rattle.camera.specs.declared.camera.CameraFields.{CameraFields}
use Rattle.camera.specs.Cameras.{is_active}
use Rattle.camera.specs.Grid.{voxel_coordinates}
use Rattle.scan_io.specs.Reading.{saturated}
use Rattle.scan_io.specs.Steps.{◌>>=◌}
use Rattle.collector.specs.Empty.{is_empty_block}
use Rattle.crossing_export.specs.Crossings.{crossings}
use Rattle.fusion_core.specs.declared.settings.Settings.{Settings}
use Rattle.fusion_core.specs.declared.refusal.Refusal.{Refusal}
use Rattle.fusion_core.specs.declared.refusal.Refusal.TheVariants.{Size, BadPose, HeapSpent}
use Rattle.fusion_core.specs.Frames.{Frame}
use Rattle.fusion_core.specs.Maps.{BlockMap, active_count}
use Rattle.fusion_core.specs.Fold.{State, judged, fused, after_frame}
use Rattle.raycaster.specs.Walk.{picture, scene_of}
use Rattle.scan_lang.specs.Config.{Config}
use Rattle.scan_lang.specs.declared.entry.Entry.{Entry}
use Rattle.scan_lang.specs.declared.entry.Entry.TheVariants as entry
use Rattle.scan_lang.specs.declared.reply.FrameDone.{FrameDone}
use Rattle.scan_lang.specs.declared.reply.KnownVoxel.{KnownVoxel}
use Rattle.scan_lang.specs.declared.reply.Place.{Place}
use Rattle.scan_lang.specs.declared.reply.Place.TheVariants as places
use Rattle.scan_lang.specs.declared.reply.Totals.{Totals}
use Rattle.scan_lang.specs.declared.reply.Reply.{Reply}
use Rattle.scan_lang.specs.declared.reply.Reply.TheVariants as replies

-- ---- frames

-- what a configuration has frames judged and fused by
abbrev pub settings_of : Config → Settings
settings_of c = record { version = c.version; camera = c.camera; max_weight = c.max_weight; heap_blocks = c.heap_blocks }

-- what is said of an accepted frame: its number, the number of blocks, and how many of them are active for it
abbrev pub frame_done : Frame → State → FrameDone
frame_done f s = record { frame = s.frames; blocks = len s.blocks; resident = active_count f s.blocks }

-- the answer to a frame: what is said of it once it was fused, or why it is refused
abbrev pub frame_answer : Config → State → PoseRows → DepthMap → Result FrameDone Refusal
frame_answer c s rows depths = judged (settings_of c) s rows depths >>= λ f. Ok (frame_done f (fused s f))

abbrev pub refusal_reply : Refusal → Reply
refusal_reply (Size width height) = replies.Size
refusal_reply (BadPose poses.Range) = replies.PoseRange
refusal_reply (BadPose poses.NotRotation) = replies.PoseRotation
refusal_reply (HeapSpent limit) = replies.HeapSpent limit

abbrev pub frame_reply : Result FrameDone Refusal → Reply
frame_reply (Ok done) = replies.Frame done
frame_reply (Err why) = refusal_reply why

-- ---- known voxels

-- the voxel of index i of a block, with its coordinates in the whole grid
abbrev pub voxel_in : BlockKey → (i : ℕ) → Voxel → KnownVoxel
voxel_in b i v = record { x = (voxel_coordinates b i).x; y = (voxel_coordinates b i).y; z = (voxel_coordinates b i).z; f = v.f; w = v.w }

abbrev pub known_at : BlockKey → (i : ℕ) → Voxel → Option KnownVoxel
known_at b i v = if is_known v then Some (voxel_in b i v) else None

-- the known voxels of a block, in the order of their indices
abbrev pub known_in : BlockKey → List Voxel → List KnownVoxel
known_in b voxels = filter_map (λ e. known_at b e.0 e.1) (enumerate_from 0 voxels)

-- all known voxels of a map, in the order of keys and indices
abbrev pub known_voxels : BlockMap → List KnownVoxel
known_voxels m = flat_map (λ e. known_in e.0 e.1) (entries m)

-- a number that saturates at the ends of 64 bits with a sign
abbrev pub within_i64 : ℤ → ℤ
within_i64 z = int_max (neg_ℤ (pos (2 ^ 63))) (int_min (pos (2 ^ 63 - 1)) z)

-- the numbers of blocks and of known voxels, the sum of their weights and that of their distances; each saturates
abbrev pub totals_of : BlockMap → Totals
totals_of m = record {
  blocks = saturated (len m);
  known = saturated (length (known_voxels m));
  weight = saturated (sum_by (λ v. v.w) (known_voxels m));
  distance = within_i64 (fold (λ a v. a +ℤ v.f) (pos 0) (known_voxels m));
}

-- ---- places

-- whether a block is active for the last frame; none is where there is no last frame
abbrev pub is_active_last : CameraFields → Option Pose → BlockKey → Bool
is_active_last k None b = false
is_active_last k (Some pose) b = is_active k pose b

-- where the block of a key lies at a state: in the heap where it is active for the last frame, else in the store; nowhere where the map lacks it
abbrev pub place_in : Config → State → BlockKey → Place
place_in c s b =
    if contains_key s.blocks b then (if is_active_last c.camera s.last b then places.Heap else places.Store)
    else places.Nowhere

-- ---- collection

-- whether a block, if there is one, is empty
abbrev pub is_empty_at : (empty_f : ℤ) → Option (List Voxel) → Bool
is_empty_at e None = false
is_empty_at e (Some voxels) = is_empty_block e voxels

-- whether a collection removes the block of a key: it is active for the last frame, and empty
abbrev pub is_collected : Config → State → BlockKey → Bool
is_collected c s b = is_active_last c.camera s.last b && is_empty_at c.empty_f (get s.blocks b)

-- the state after a collection: its map has no block that is empty and active for the last frame
unfoldable pub collected : Config → State → State
collected c s = record { blocks = retain_keys s.blocks (λ b. not (is_collected c s b)); frames = s.frames; last = s.last }

-- how many blocks a collection removes
abbrev pub collected_count : Config → State → ℕ
collected_count c s = len s.blocks - len (collected c s).blocks

-- ---- pictures

-- the picture of the map from the last frame's pose; there is none where there is no last frame
abbrev pub picture_from : Config → Option Pose → BlockMap → Option DepthMap
picture_from c None m = None
picture_from c (Some pose) m = Some (picture (scene_of c.camera pose m))

abbrev pub picture_at : Config → State → Option DepthMap
picture_at c s = picture_from c s.last s.blocks

-- the reply, by the number of frames
abbrev pub picture_reply : (frames : ℕ) → Option DepthMap → Reply
picture_reply n None = replies.NoFrame
picture_reply n (Some image) = replies.Picture n image

-- ---- entries

-- the state after an entry
abbrev pub after : Config → State → Entry → State
after c s (entry.Frame rows depths) = after_frame s (judged (settings_of c) s rows depths)
after c s entry.Collect = collected c s
after c s entry.Render = s
after c s entry.Voxels = s
after c s entry.Points = s
after c s entry.Sum = s
after c s (entry.Place b) = s
after c s entry.End = s

-- the reply to an entry at a state
abbrev pub reply_to : Config → State → Entry → Reply
reply_to c s (entry.Frame rows depths) = frame_reply (frame_answer c s rows depths)
reply_to c s entry.Collect = replies.Collected (collected_count c s)
reply_to c s entry.Render = picture_reply s.frames (picture_at c s)
reply_to c s entry.Voxels = replies.Voxels (len s.blocks) (known_voxels s.blocks)
reply_to c s entry.Points = replies.Points (crossings s.blocks c.camera.voxel)
reply_to c s entry.Sum = replies.Totals (totals_of s.blocks)
reply_to c s (entry.Place b) = replies.Place (place_in c s b)
reply_to c s entry.End = replies.End
