use Rattle.std.proofs.Common.{◌≡◌, ap, ◌∙◌}
use Rattle.std.specs.Prelude.{ℤ, unsigned_abs}
use Rattle.depth_frame.specs.DepthMaps.{depth_map_of}
use Rattle.camera.specs.declared.camera.CameraFields.{CameraFields}
use Rattle.streamer.specs.Places.{heap_blocks}
use Rattle.raycaster.specs.Walk.{all_samples, scene_of}
use Rattle.raycaster.proofs.picture.render.Goals as goal

pub returns-clause-picture : goal.returns-clause-picture
returns-clause-picture c =
    let k = c.args.camera.now in
    let same = c.of-view.ensures in
    let width : c.width-width.result ≡ unsigned_abs k.width = ap (λ (z : ℤ). unsigned_abs z) (c.width-width.ensures ∙ ap (λ (f : CameraFields). f.width) same.fields) in
    let height : c.height-height.result ≡ unsigned_abs k.height = ap (λ (z : ℤ). unsigned_abs z) (c.height-height.ensures ∙ ap (λ (f : CameraFields). f.height) same.fields) in
    let samples = c.in_ok-raw.ensures.samples ∙ (λ i. all_samples (scene_of (same.fields i) (same.pose i) (heap_blocks (same.rest i)))) in
    c.make.ensures ∙ (λ i. depth_map_of (width i) (height i) (samples i))
