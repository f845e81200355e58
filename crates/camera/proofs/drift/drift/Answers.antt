use Rattle.std.proofs.Common.{◌≡◌, ◌∙◌, refl, sym, subst}
use Rattle.std.specs.Prelude.{ℤ, pos, ◌≤ℤ◌}
use Rattle.std.proofs.lemmas.Int.{to_z-of_z}
use mir.Syntax.{w64}
use Rattle.camera.specs.Cameras.{reach_x, reach_y}
use Rattle.camera.proofs.Readings.{read}
use Rattle.camera.proofs.OpeningLemmas.{reaches_are}
use Rattle.camera.proofs.drift.drift.Goals as goal

depth : (c : goal.After-reach-y) → read c.max_depth-z.result ≡ c.max_depth-z.result
depth c = to_z-of_z w64 c.max_depth-z.result (record { sfits = c.max_depth-z.type_inv })

x_read : (c : goal.After-reach-y) → read c.reach-x.result ≡ c.reach-x.result
x_read c = to_z-of_z w64 c.reach-x.result (record { sfits = c.reach-x.type_inv })

y_read : (c : goal.After-reach-y) → read c.reach-y.result ≡ c.reach-y.result
y_read c = to_z-of_z w64 c.reach-y.result (record { sfits = c.reach-y.type_inv })

are : (c : goal.After-reach-y) → (c.reach-x.result ≡ reach_x c.args.camera.now) × (c.reach-y.result ≡ reach_y c.args.camera.now)
are c = reaches_are c.args.camera.now c.max_depth-z.result c.reach-x.result c.reach-y.result c.requires.ranges c.max_depth-z.ensures.value (depth c) c.reach-x.ensures.value c.reach-y.ensures.value

pub drift_by-requires-clause-x_high : goal.drift_by-requires-clause-x_high
drift_by-requires-clause-x_high c = subst (λ (z : ℤ). z ≤ℤ pos 17000000) (sym (x_read c ∙ (are c).0)) c.requires.reach.x

pub drift_by-requires-clause-y_high : goal.drift_by-requires-clause-y_high
drift_by-requires-clause-y_high c = subst (λ (z : ℤ). z ≤ℤ pos 17000000) (sym (y_read c ∙ (are c).1)) c.requires.reach.y

pub returns-clause-value : goal.returns-clause-value
returns-clause-value c =
    let x = to_z-of_z w64 c.reach-x.result (record { sfits = c.reach-x.type_inv }) in
    let y = to_z-of_z w64 c.reach-y.result (record { sfits = c.reach-y.type_inv }) in
    let z = to_z-of_z w64 c.max_depth-z.result (record { sfits = c.max_depth-z.type_inv }) in
    let is = reaches_are c.args.camera.now c.max_depth-z.result c.reach-x.result c.reach-y.result c.requires.ranges c.max_depth-z.ensures.value z c.reach-x.ensures.value c.reach-y.ensures.value in
    to_z-of_z w64 c.drift_by.result (record { sfits = c.drift_by.type_inv }) ∙ c.drift_by.ensures.value
    ∙ rw (x, y, z, is.0, is.1, c.max_depth-z.ensures.value) refl
