use Rattle.std.proofs.Common.{◌≡◌, ◌∙◌, ap}
use Rattle.std.specs.Prelude.{ℤ, pos, ◌+ℤ◌, ◌-ℤ◌}
use Rattle.std.specs.Int.{int_max}
use Rattle.std.proofs.lemmas.Int.{to_z-of_z}
use mir.Val.{to_z, of_z}
use mir.Syntax.{w64}
use Rattle.fixed_geom.specs.Poses.{world}
use Rattle.camera.specs.declared.camera.CameraFields.{CameraFields}
use Rattle.camera.specs.Cameras.{ray}
use Rattle.band_walk.specs.BandViews.{view_of_band}
use Rattle.band_walk.proofs.band.Band.segment.Goals as goal

pub returns-clause-start : goal.returns-clause-start
returns-clause-start c =
    let w = view_of_band c.args.self.now in
    let d = c.args.d in
    let at : ℤ → _ = λ z. world w.pose (ray w.camera (pos c.args.u) (pos c.args.v) z) in
    let depth : to_z w64 (of_z w64 d) ≡ d = to_z-of_z w64 d c.ranges.d in
    c.between.ensures.start ∙ c.world_point-start.ensures.value
    ∙ ap at (to_z-of_z w64 c.first_depth.result (record { sfits = c.first_depth.type_inv }) ∙ c.first_depth.ensures.value ∙ ap (λ (q : CameraFields). int_max (pos 1) (to_z w64 (of_z w64 d) -ℤ q.mu)) c.fields-camera.ensures.value ∙ ap (λ z. int_max (pos 1) (z -ℤ w.camera.mu)) depth)

pub returns-clause-end : goal.returns-clause-end
returns-clause-end c =
    let w = view_of_band c.args.self.now in
    let d = c.args.d in
    let at : ℤ → _ = λ z. world w.pose (ray w.camera (pos c.args.u) (pos c.args.v) z) in
    let depth : to_z w64 (of_z w64 d) ≡ d = to_z-of_z w64 d c.ranges.d in
    c.between.ensures.end ∙ c.world_point-end.ensures.value
    ∙ ap at (to_z-of_z w64 c.last_depth.result (record { sfits = c.last_depth.type_inv }) ∙ c.last_depth.ensures.value ∙ ap (λ (q : CameraFields). to_z w64 (of_z w64 d) +ℤ q.mu) c.fields-camera.ensures.value ∙ ap (λ z. z +ℤ w.camera.mu) depth)
