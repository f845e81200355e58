use Rattle.std.proofs.Common.{refl, ◌∙◌}
use Rattle.std.proofs.lemmas.Int.{to_z-of_z}
use mir.Syntax.{w64}
use Rattle.camera.proofs.OpeningLemmas.{distances_read}
use Rattle.camera.proofs.opening.rounding.Goals as goal

pub returns-clause-value : goal.returns-clause-value
returns-clause-value c =
    let a = c.args in
    let r = c.requires in
    to_z-of_z w64 c.floor.result (record { sfits = c.floor.type_inv }) ∙ c.floor.ensures.value
    ∙ rw (distances_read a.x a.y a.z r.x r.x_high r.y r.y_high r.z r.z_high, to_z-of_z w64 a.divisor c.ranges.divisor) refl
