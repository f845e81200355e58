-- What a session is to its callers, and what it answers.
use Rattle.std.specs.Prelude.{◌≡◌, ℕ, ◌<◌, ◌≤◌, Option, Result, Ok, Err, ⊤}
use Rattle.fixed_geom.specs.Poses.{Pose}
use Rattle.streamer.specs.Places.{Places, blocks_of}
use Rattle.streamer.specs.declared.plan.Plan.{Plan}
use Rattle.scan_io.specs.Reading.{Cause, refused, no_memory}
use Rattle.fusion_core.specs.declared.refusal.Refusal.{Refusal}
use Rattle.fusion_core.specs.declared.refusal.Refusal.TheVariants as refusals
use Rattle.fusion_core.specs.Fold.{State}
use Rattle.scan_lang.specs.Config.{Config}
use Rattle.session.specs.declared.fused_map.FusedMap.{FusedMap}
use Rattle.session.specs.declared.room.Ready.{Ready}
use Rattle.session.specs.declared.error.FrameError.{FrameError}
use Rattle.session.specs.declared.error.FrameError.TheVariants as errors

-- a session: what its map is read and fused by, where the blocks of its map lie, the number of accepted frames, and the
-- pose of the last one
pub record SessionView : Type 0 where
  pub config : Config
  pub places : Places
  pub frames : ℕ
  pub last : Option Pose

-- the session of a configuration and what was fused
abbrev pub session_of : Config → FusedMap → SessionView
session_of c m = record { config = c; places = m.rest; frames = m.frames; last = m.last }

-- its state: the map has each known key's block, wherever it lies
abbrev pub state_of : SessionView → State
state_of h = record { blocks = blocks_of h.places; frames = h.frames; last = h.last }

-- ---- frames

-- the error of a frame that is refused
abbrev pub frame_error : Refusal → FrameError
frame_error (refusals.Size width height) = errors.Size width height
frame_error (refusals.BadPose why) = errors.BadPose why
frame_error (refusals.HeapSpent limit) = errors.HeapSpent limit

-- why an error came: the frame is refused, or it is out of memory
abbrev pub frame_cause : FrameError → Cause Refusal
frame_cause (errors.Size width height) = refused (refusals.Size width height)
frame_cause (errors.BadPose why) = refused (refusals.BadPose why)
frame_cause (errors.HeapSpent limit) = refused (refusals.HeapSpent limit)
frame_cause errors.NoMemory = no_memory

-- ---- the room, of which only the session's parts speak

-- what is answered where n blocks would be active: n itself, if it is not above the limit
abbrev pub AnswersRoom : (limit n : ℕ) → Result ℕ FrameError → Type 0
AnswersRoom limit n (Ok count) = (n ≤ limit) × (count ≡ n)
AnswersRoom limit n (Err (errors.HeapSpent top)) = (limit < n) × (top ≡ limit)
AnswersRoom limit n (Err errors.NoMemory) = ⊤
AnswersRoom limit n (Err (errors.Size width height)) = ⊥
AnswersRoom limit n (Err (errors.BadPose why)) = ⊥

-- the number of active blocks of a frame that is made ready
abbrev pub resident_of : Result Ready FrameError → Result ℕ FrameError
resident_of (Ok ready) = Ok ready.plan.need
resident_of (Err why) = Err why

-- the same of a plan
abbrev pub need_in : Result Plan FrameError → Result ℕ FrameError
need_in (Ok plan) = Ok plan.need
need_in (Err why) = Err why
