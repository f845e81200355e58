use Rattle.std.proofs.Common.{◌≡◌, ◌∙◌, subst, sym}
use Rattle.std.specs.Prelude.{Result, Err, Some, ◌↔◌}
use Rattle.std.proofs.lemmas.Result.{err_from_is_err_and}
use Rattle.camera.specs.declared.camera.CameraFields.{CameraFields}
use Rattle.camera.specs.declared.camera.BadCamera.{BadCamera}
use Rattle.camera.specs.declared.camera.BadCamera.TheVariants.{Field, Reach, Sphere}
use Rattle.camera.specs.Cameras.{HasRanges, HasReach, FitsSphere}
use Rattle.camera.specs.Opening.{camera_tests, first_failing}
use Rattle.camera.proofs.CameraLemmas.{field_refused, reach_refused, sphere_refused, whole_camera, refused_field, refused_opening, passed_all}
use Rattle.camera.proofs.camera.Camera.make.Goals as goal

-- a field that is out of its range

pub returns-in-Some-clause-value : goal.returns-in-Some-clause-value
returns-in-Some-clause-value c = refused_field c.args.fields c.in-Some.number (sym c.in-Some.is ∙ c.failing_field.ensures.value)

pub returns-in-Some-clause-whole : goal.returns-in-Some-clause-whole
returns-in-Some-clause-whole c = λ camera. returns-in-Some-clause-value c ∙ whole_camera c.args.fields camera

pub returns-in-Some-clause-reach : goal.returns-in-Some-clause-reach
returns-in-Some-clause-reach c =
    let k = c.args.fields in
    subst (λ (r : Result CameraFields BadCamera). (r ≡ Err Reach) ↔ (HasRanges k × (¬ HasReach k))) (sym (returns-in-Some-clause-value c)) (reach_refused k)

pub returns-in-Some-clause-sphere : goal.returns-in-Some-clause-sphere
returns-in-Some-clause-sphere c =
    let k = c.args.fields in
    subst (λ (r : Result CameraFields BadCamera). (r ≡ Err Sphere) ↔ (HasRanges k × HasReach k × (¬ FitsSphere k))) (sym (returns-in-Some-clause-value c)) (sphere_refused k)

-- the opening test

pub returns-in_err-check_opening-clause-value : goal.returns-in_err-check_opening-clause-value
returns-in_err-check_opening-clause-value c =
    let p = err_from_is_err_and c.from_residual.result c.from_residual.ensures.1 in
    rw (p.1, p.2) (refused_opening c.args.fields c.in_err-check_opening.field-0.0 c.check_opening.result (sym c.in_default.is ∙ c.failing_field.ensures.value) c.check_opening.ensures c.in_err-check_opening.was)

pub returns-in_err-check_opening-clause-whole : goal.returns-in_err-check_opening-clause-whole
returns-in_err-check_opening-clause-whole c = λ camera. returns-in_err-check_opening-clause-value c ∙ whole_camera c.args.fields camera

pub returns-in_err-check_opening-clause-field : goal.returns-in_err-check_opening-clause-field
returns-in_err-check_opening-clause-field c = λ n.
    let k = c.args.fields in
    subst (λ (r : Result CameraFields BadCamera). (r ≡ Err (Field n)) ↔ (first_failing 2 (camera_tests k) ≡ Some n)) (sym (returns-in_err-check_opening-clause-value c)) (field_refused k n)

pub returns-in_err-check_opening-clause-reach : goal.returns-in_err-check_opening-clause-reach
returns-in_err-check_opening-clause-reach c =
    let k = c.args.fields in
    subst (λ (r : Result CameraFields BadCamera). (r ≡ Err Reach) ↔ (HasRanges k × (¬ HasReach k))) (sym (returns-in_err-check_opening-clause-value c)) (reach_refused k)

pub returns-in_err-check_opening-clause-sphere : goal.returns-in_err-check_opening-clause-sphere
returns-in_err-check_opening-clause-sphere c =
    let k = c.args.fields in
    subst (λ (r : Result CameraFields BadCamera). (r ≡ Err Sphere) ↔ (HasRanges k × HasReach k × (¬ FitsSphere k))) (sym (returns-in_err-check_opening-clause-value c)) (sphere_refused k)

-- a camera

pub invariant_of-result : goal.invariant_of-result
invariant_of-result c = passed_all c.args.fields c.check_opening.result (sym c.in_default.is ∙ c.failing_field.ensures.value) c.check_opening.ensures c.in_ok-check_opening.was

pub returns-clause-value : goal.returns-clause-value
returns-clause-value c = sym (whole_camera c.args.fields (invariant_of-result c))
