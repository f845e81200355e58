-- The state that frames leave, one after another, and why a frame is refused.
use Rattle.std.specs.Prelude.{ℕ, ◌+◌, ◌&&◌, nat_le, pos, Bool, if◌then◌else◌, Option, None, Some, Result, Ok, Err}
use Rattle.std.specs.Ordering.{int_eq}
use Rattle.std.specs.FinMap.{empty}
use Rattle.fixed_geom.specs.Poses.{Pose}
use Rattle.fixed_geom.specs.PoseTest.{accepted, pose_of}
use Rattle.fixed_geom.specs.declared.pose.PoseRows.{PoseRows}
use Rattle.fixed_geom.specs.declared.pose.BadPose.{BadPose}
use Rattle.depth_frame.specs.DepthMaps.{DepthMap}
use Rattle.camera.specs.declared.camera.CameraFields.{CameraFields}
use Rattle.scan_io.specs.Reading.{saturated}
use Rattle.scan_io.specs.Steps.{◌>>=◌}
use Rattle.fusion_core.specs.declared.settings.Settings.{Settings}
use Rattle.fusion_core.specs.declared.refusal.Refusal.{Refusal}
use Rattle.fusion_core.specs.declared.refusal.Refusal.TheVariants as refusals
use Rattle.fusion_core.specs.Frames.{Frame}
use Rattle.fusion_core.specs.Maps.{BlockMap, fuse, need}

-- ---- the state

-- the map, the number of accepted frames, and the pose of the last one
pub record State : Type 0 where
  pub blocks : BlockMap
  pub frames : ℕ
  pub last : Option Pose

abbrev pub start : State
start = record { blocks = empty; frames = 0; last = None }

-- the state after a frame was fused; the number of frames saturates
abbrev pub fused : State → Frame → State
fused s f = record { blocks = fuse s.blocks f; frames = saturated (s.frames + 1); last = Some f.pose }

-- a frame that is refused changes nothing
abbrev pub after_frame : State → Result Frame Refusal → State
after_frame s (Ok f) = fused s f
after_frame s (Err why) = s

-- ---- a frame is accepted or refused

-- whether a depth map has the sides of a camera's image
abbrev pub has_size : CameraFields → DepthMap → Bool
has_size k p = int_eq (pos p.width) k.width && int_eq (pos p.height) k.height

-- the frame of a pose and a depth map
abbrev pub frame_of : Settings → Pose → DepthMap → Frame
frame_of c pose depths = record { version = c.version; camera = c.camera; max_weight = c.max_weight; pose = pose; depths = depths }

abbrev pub posed : Settings → DepthMap → Result Pose BadPose → Result Frame Refusal
posed c depths (Err why) = Err (refusals.BadPose why)
posed c depths (Ok pose) = Ok (frame_of c pose depths)

-- the frame of rows and a depth map, before its room is judged: its size is judged first, then its pose
unfoldable pub offered : Settings → PoseRows → DepthMap → Result Frame Refusal
offered c rows depths = if has_size c.camera depths then posed c depths (accepted (pose_of rows)) else Err (refusals.Size depths.width depths.height)

-- the blocks that would be active have to find room
abbrev pub with_room : (limit : ℕ) → BlockMap → Frame → Result Frame Refusal
with_room limit m f = if nat_le (need m f) limit then Ok f else Err (refusals.HeapSpent limit)

-- the frame of rows and a depth map, or why it is refused: for its size, its pose, or the room that it needs, in this order
unfoldable pub judged : Settings → State → PoseRows → DepthMap → Result Frame Refusal
judged c s rows depths = do
  f ← offered c rows depths
  with_room c.heap_blocks s.blocks f
