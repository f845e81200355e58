use Rattle.std.proofs.Common.{sym, ap, subst, ◌∙◌, rules}
use Rattle.std.proofs.lemmas.Int.{to_z-of_z}
use mir.Val.{SFits}
use mir.Syntax.{w64}
use Rattle.camera.specs.declared.camera.CameraFields.{CameraFields}
use Rattle.camera.specs.Visibility.{IsInReach}
use Rattle.crossing_export.specs.Crossings.{crossings}
use Rattle.streamer.specs.Places.{blocks_of}
use Rattle.session.proofs.StandingLemmas.{stands}
use Rattle.session.proofs.fused_map.read_points.Goals as goal

pub surface_points-requires-clause-reach : goal.surface_points-requires-clause-reach
surface_points-requires-clause-reach c = λ b known.
    let fits : SFits w64 c.fields.result.voxel = search rules in
    let size = to_z-of_z w64 c.fields.result.voxel fits ∙ ap (λ (k : CameraFields). k.voxel) (c.fields.ensures.value ∙ c.camera.ensures.value) in
    subst (λ s. IsInReach s b) (sym size) (c.requires.sound.reach b known)

pub returns-clause-points : goal.returns-clause-points
returns-clause-points c =
    let fits : SFits w64 c.fields.result.voxel = search rules in
    let size = to_z-of_z w64 c.fields.result.voxel fits ∙ ap (λ (k : CameraFields). k.voxel) (c.fields.ensures.value ∙ c.camera.ensures.value) in
    c.in_ok-points.ensures ∙ ap (crossings (blocks_of c.args.map.now.rest)) size

pub returns-in_err-points-clause-stands : goal.returns-in_err-points-clause-stands
returns-in_err-points-clause-stands c = stands _ c.requires

pub returns-clause-stands : goal.returns-clause-stands
returns-clause-stands c = stands _ c.requires
