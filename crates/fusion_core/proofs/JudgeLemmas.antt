-- A frame is offered and judged.
use Rattle.std.proofs.Common.{◌≡◌, ℕ, ◌<◌, ◌≤◌, false, true, cond, nat_le, ap, ◌∙◌, arith}
use Rattle.std.specs.Prelude.{pos, Result, Ok, Err}
use Rattle.std.specs.Ordering.{int_eq}
use Rattle.std.proofs.lemmas.Bool.{and_parts}
use Rattle.std.proofs.lemmas.Bool.Decides.{Decides-int_eq}
use Rattle.fixed_geom.specs.Poses.{Pose, IsPose}
use Rattle.fixed_geom.specs.PoseTest.{accepted, pose_of}
use Rattle.fixed_geom.specs.declared.pose.PoseRows.{PoseRows}
use Rattle.fixed_geom.specs.declared.pose.BadPose.{BadPose}
use Rattle.depth_frame.specs.DepthMaps.{DepthMap}
use Rattle.camera.specs.Cameras.{IsCamera}
use Rattle.scan_io.specs.Steps.{◌>>=◌}
use Rattle.fusion_core.specs.declared.settings.Settings.{Settings}
use Rattle.fusion_core.specs.declared.refusal.Refusal.{Refusal}
use Rattle.fusion_core.specs.declared.refusal.Refusal.TheVariants.{Size, BadPose as bad_pose, HeapSpent}
use Rattle.fusion_core.specs.Frames.{Frame, IsFrame}
use Rattle.fusion_core.specs.Maps.{need}
use Rattle.fusion_core.specs.Fold.{State, frame_of, has_size, offered, posed, with_room, judged}

-- what is made of a pose and a depth map of the right sides is a frame
pub is_frame : (c : Settings) (pose : Pose) (depths : DepthMap) → IsCamera c.camera → IsPose pose → 1 ≤ c.max_weight → has_size c.camera depths ≡ true → IsFrame (frame_of c pose depths)
is_frame c pose depths camera p weight sides =
    let both = and_parts (int_eq (pos depths.width) c.camera.width) (int_eq (pos depths.height) c.camera.height) sides in record {
      shown = record {
        camera = camera;
        pose = p;
        fits = record {
          width = (Decides-int_eq (pos depths.width) c.camera.width).0 both.0;
          height = (Decides-int_eq (pos depths.height) c.camera.height).0 both.1;
        };
      };
      max_weight = weight;
    }

module _ (c : Settings) (rows : PoseRows) (depths : DepthMap) where
  -- a frame of another size is not offered, nor is one whose rows are no pose
  pub offered_size : has_size c.camera depths ≡ false → offered c rows depths ≡ Err (Size depths.width depths.height)
  unfolding offered
  offered_size e = ap (λ b. cond b (posed c depths (accepted (pose_of rows))) (Err (Size depths.width depths.height))) e

  pub offered_pose : (why : BadPose) → has_size c.camera depths ≡ true → accepted (pose_of rows) ≡ Err why → offered c rows depths ≡ Err (bad_pose why)
  unfolding offered
  offered_pose why e p = λ i. cond (e i) (posed c depths (p i)) (Err (Size depths.width depths.height))

  pub offered_ok : (pose : Pose) → has_size c.camera depths ≡ true → accepted (pose_of rows) ≡ Ok pose → offered c rows depths ≡ Ok (frame_of c pose depths)
  unfolding offered
  offered_ok pose e p = λ i. cond (e i) (posed c depths (p i)) (Err (Size depths.width depths.height))

module _ (c : Settings) (s : State) (rows : PoseRows) (depths : DepthMap) where
  -- a frame that is offered is judged by its room
  judged_by_room : (f : Frame) → offered c rows depths ≡ Ok f → judged c s rows depths ≡ with_room c.heap_blocks s.blocks f
  unfolding judged
  judged_by_room f is = ap (λ (r : Result Frame Refusal). r >>= λ g. with_room c.heap_blocks s.blocks g) is

  -- one that is not offered is refused for the same reason
  pub judged_refused : (why : Refusal) → offered c rows depths ≡ Err why → judged c s rows depths ≡ Err why
  unfolding judged
  judged_refused why is = ap (λ (r : Result Frame Refusal). r >>= λ g. with_room c.heap_blocks s.blocks g) is

  no_room : (n limit : ℕ) → limit < n → nat_le n limit ≡ false
  no_room n limit h = grind arith

  room : (n limit : ℕ) → n ≤ limit → nat_le n limit ≡ true
  room n limit h = grind arith

  pub judged_spent : (f : Frame) → offered c rows depths ≡ Ok f → c.heap_blocks < need s.blocks f → judged c s rows depths ≡ Err (HeapSpent c.heap_blocks)
  judged_spent f is spent = judged_by_room f is ∙ ap (λ t. cond t (Ok f) (Err (HeapSpent c.heap_blocks))) (no_room (need s.blocks f) c.heap_blocks spent)

  pub judged_accepted : (f : Frame) → offered c rows depths ≡ Ok f → need s.blocks f ≤ c.heap_blocks → judged c s rows depths ≡ Ok f
  judged_accepted f is fits = judged_by_room f is ∙ ap (λ t. cond t (Ok f) (Err (HeapSpent c.heap_blocks))) (room (need s.blocks f) c.heap_blocks fits)
