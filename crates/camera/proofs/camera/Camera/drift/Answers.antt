use Rattle.std.proofs.Common.{sym, ap, subst, ◌∙◌}
use Rattle.std.proofs.lemmas.Int.{to_z-of_z}
use mir.Syntax.{w64}
use Rattle.camera.specs.Cameras.{DriftsWithin, IsCamera, drift}
use Rattle.camera.proofs.DriftLemmas.{drifts_within}
use Rattle.camera.proofs.camera.Camera.drift.Goals as goal

pub returns-clause-drift : goal.returns-clause-drift
returns-clause-drift c =
    let is = to_z-of_z w64 c.drift.result (record { sfits = c.drift.type_inv }) ∙ c.drift.ensures.value ∙ ap drift c.self.view_is in
    subst (DriftsWithin c.args.self.now) (sym is) (drifts_within c.args.self.now (subst IsCamera c.self.view_is c.self.invariant).ranges)
