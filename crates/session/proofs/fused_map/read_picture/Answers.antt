use Rattle.std.proofs.Common.{sym, ap, ◌∙◌}
use Rattle.std.specs.Prelude.{Option, Some}
use Rattle.fixed_geom.specs.Poses.{Pose}
use Rattle.camera.specs.declared.camera.CameraFields.{CameraFields}
use Rattle.streamer.specs.Places.{blocks_of, heap_blocks}
use Rattle.raycaster.specs.Walk.{picture, scene_of}
use Rattle.raycaster.proofs.PictureLemmas.{picture_same}
use Rattle.session.specs.Answers.{session_of}
use Rattle.session.specs.Fold.{picture_from}
use Rattle.session.proofs.StandingLemmas.{heap_agrees, stands}
use Rattle.session.proofs.fused_map.read_picture.Goals as goal

pub returns-in_ok-image-in-Some-clause-image : goal.returns-in_ok-image-in-Some-clause-image
returns-in_ok-image-in-Some-clause-image c =
    let k = c.args.config.now.camera in
    let pose = c.in-Some.pose in
    let p = c.args.map.now.rest in
    let agree = heap_agrees (session_of c.args.config.now c.args.map.now) pose c.requires c.in-Some.is in
    let same = picture_same k pose (heap_blocks p) (blocks_of p) c.camera.ensures.config.camera c.render.ensures.pose agree in
    let image = c.in_ok-image-in-Some.ensures.picture ∙ ap (λ (f : CameraFields). picture (scene_of f pose (heap_blocks p))) c.camera.ensures.value ∙ same in
    ap (λ (l : Option Pose). picture_from c.args.config.now l (blocks_of p)) c.in-Some.is ∙ ap Some (sym image)

pub returns-in_err-image-in-Some-clause-stands : goal.returns-in_err-image-in-Some-clause-stands
returns-in_err-image-in-Some-clause-stands c = stands _ c.requires

pub returns-in_ok-image-in-Some-clause-stands : goal.returns-in_ok-image-in-Some-clause-stands
returns-in_ok-image-in-Some-clause-stands c = stands _ c.requires

pub returns-in-None-clause-stands : goal.returns-in-None-clause-stands
returns-in-None-clause-stands c = stands _ c.requires
