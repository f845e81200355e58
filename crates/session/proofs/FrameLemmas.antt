-- What a session answers to a frame, one lemma for each way that it ends.
use Rattle.std.proofs.Common.{◌≡◌, ℕ, ◌+◌, true, false, sym, ap, ◌∙◌}
use Rattle.std.specs.Prelude.{Some, Result, Ok, Err, OnErr}
use Rattle.std.specs.List.{fold}
use Rattle.std.specs.FinMap.{len}
use Rattle.fixed_geom.specs.PoseTest.{accepted, pose_of}
use Rattle.fixed_geom.specs.declared.pose.PoseRows.{PoseRows}
use Rattle.fixed_geom.specs.declared.pose.BadPose.{BadPose}
use Rattle.depth_frame.specs.DepthMaps.{DepthMap}
use Rattle.band_walk.specs.Bands.{band}
use Rattle.scan_io.specs.Reading.{Allows, UnlessOutOfMemory, saturated}
use Rattle.scan_io.specs.Steps.{◌>>=◌}
use Rattle.fusion_core.specs.declared.refusal.Refusal.{Refusal}
use Rattle.fusion_core.specs.declared.refusal.Refusal.TheVariants as refusals
use Rattle.fusion_core.specs.Frames.{Frame, view}
use Rattle.fusion_core.specs.Maps.{BlockMap, need, touched, all_updated}
use Rattle.fusion_core.specs.Fold.{State, after_frame, fused, has_size, judged, offered}
use Rattle.fusion_core.proofs.FuseLemmas.{fuse_is}
use Rattle.fusion_core.proofs.JudgeLemmas.{judged_accepted, judged_refused, judged_spent, offered_pose, offered_size}
use Rattle.scan_lang.specs.Config.{Config}
use Rattle.scan_lang.specs.declared.reply.FrameDone.{FrameDone}
use Rattle.session.specs.declared.error.FrameError.{FrameError}
use Rattle.session.specs.declared.error.FrameError.TheVariants as errors
use Rattle.session.specs.Answers.{AnswersRoom, frame_cause, frame_error}
use Rattle.session.specs.Fold.{frame_answer, frame_done, settings_of}

module _ (c : Config) (s : State) (rows : PoseRows) (depths : DepthMap) where
  -- what is said of the result of a frame that does not change the session, and of every other
  pub record IsAnswer (result : Result FrameDone FrameError) : Type 0 where
    pub answer : UnlessOutOfMemory frame_cause (λ done. done) result (frame_answer c s rows depths)
    pub size : has_size c.camera depths ≡ false → result ≡ Err (errors.Size depths.width depths.height)
    pub pose : has_size c.camera depths ≡ true → (why : BadPose) → accepted (pose_of rows) ≡ Err why → result ≡ Err (errors.BadPose why)

  err_same : (a b : Refusal) → ◌≡◌ {A = Result Frame Refusal} (Err a) (Err b) → a ≡ b
  err_same a b e = cc

  -- an error of a refusal has it as its cause
  cause_is : (why : Refusal) (answer : Result FrameDone Refusal) → answer ≡ Err why → Allows (frame_cause (frame_error why)) answer
  cause_is (refusals.Size width height) answer e = e
  cause_is (refusals.BadPose why) answer e = e
  cause_is (refusals.HeapSpent limit) answer e = e

  answered : (r : Result Frame Refusal) → judged (settings_of c) s rows depths ≡ r → frame_answer c s rows depths ≡ (r >>= λ f. Ok (frame_done f (fused s f)))
  answered r e = ap (λ (q : Result Frame Refusal). q >>= λ f. Ok (frame_done f (fused s f))) e

  -- a frame that is refused for its size or its pose
  pub refused_arm : (why : Refusal) → offered (settings_of c) rows depths ≡ Err why → IsAnswer (Err (frame_error why))
  refused_arm why is = record {
    answer = cause_is why (frame_answer c s rows depths) (answered (Err why) (judged_refused (settings_of c) s rows depths why is));
    size = λ e. ap (λ w. Err (frame_error w)) (err_same why (refusals.Size depths.width depths.height) (sym is ∙ offered_size (settings_of c) rows depths e));
    pose = λ e bad p. ap (λ w. Err (frame_error w)) (err_same why (refusals.BadPose bad) (sym is ∙ offered_pose (settings_of c) rows depths bad e p));
  }

  -- one that is offered has the right size, and its rows are a pose
  module _ (f : Frame) (is : offered (settings_of c) rows depths ≡ Ok f) where
    by_room : (result : Result FrameDone FrameError) → UnlessOutOfMemory frame_cause (λ done. done) result (frame_answer c s rows depths) → IsAnswer result
    by_room result answer = record {
      answer = answer;
      size = λ e. absurd (let z : ◌≡◌ {A = Result Frame Refusal} (Ok f) (Err (refusals.Size depths.width depths.height)) = sym is ∙ offered_size (settings_of c) rows depths e in cc);
      pose = λ e bad p. absurd (let z : ◌≡◌ {A = Result Frame Refusal} (Ok f) (Err (refusals.BadPose bad)) = sym is ∙ offered_pose (settings_of c) rows depths bad e p in cc);
    }

    -- a frame that finds no room, and one that is out of memory
    pub room_arm : (e : FrameError) → AnswersRoom c.heap_blocks (need s.blocks f) (Err e) → IsAnswer (Err e)
    room_arm (errors.HeapSpent top) a = by_room (Err (errors.HeapSpent top))
        (answered _ (judged_spent (settings_of c) s rows depths f is a.0) ∙ ap (λ n. Err (refusals.HeapSpent n)) (sym a.1))
    room_arm errors.NoMemory a = by_room (Err errors.NoMemory) tt
    room_arm (errors.Size width height) a = absurd a
    room_arm (errors.BadPose why) a = absurd a

    -- a frame that was fused
    pub fused_arm : (now : State) (n : ℕ) → now ≡ fused s f → AnswersRoom c.heap_blocks (need s.blocks f) (Ok n) → IsAnswer (Ok (record { frame = now.frames; blocks = len now.blocks; resident = n }))
    fused_arm now n new a = by_room (Ok (record { frame = now.frames; blocks = len now.blocks; resident = n }))
        (answered _ (judged_accepted (settings_of c) s rows depths f is a.0) ∙ ap (λ (d : FrameDone). Ok d) (sym (λ i. record { frame = (new i).frames; blocks = len (new i).blocks; resident = a.1 i })))

    pub fused_state : (now : State) (n : ℕ) → now ≡ fused s f → AnswersRoom c.heap_blocks (need s.blocks f) (Ok n) → now ≡ after_frame s (judged (settings_of c) s rows depths)
    fused_state now n new a = new ∙ ap (after_frame s) (sym (judged_accepted (settings_of c) s rows depths f is a.0))

-- the state after the blocks of the band were touched and every block was updated
pub fused_is : (s : State) (f : Frame) (m : BlockMap) → m ≡ fold touched s.blocks (band (view f)) → record { blocks = all_updated f m; frames = saturated (s.frames + 1); last = Some f.pose } ≡ fused s f
fused_is s f m e = ap (λ (b : BlockMap). record { blocks = b; frames = saturated (s.frames + 1); last = Some f.pose }) (ap (all_updated f) e ∙ fuse_is f s.blocks)

-- what holds of an error, whatever the result
pub on_err : {T E : Type 0} (P : Type 0) (r : Result T E) → P → OnErr r P
on_err P (Ok x) p = tt
on_err P (Err e) p = p
