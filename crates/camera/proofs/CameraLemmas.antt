-- Which fields make a camera, and which refusal the others get.
use Rattle.std.proofs.Common.{◌≡◌, ℕ, Bool, true, false, Option, Some, None, Ok, Err, cond, refl, sym, ◌∙◌, ap}
use Rattle.std.specs.Prelude.{pos, ◌↔◌, int_le, Result, ⊤}
use Rattle.std.proofs.lemmas.Bool.{and_parts, false≢true}
use Rattle.camera.specs.declared.camera.CameraFields.{CameraFields}
use Rattle.camera.specs.declared.camera.BadCamera.{BadCamera}
use Rattle.camera.specs.declared.camera.BadCamera.TheVariants.{Field, Reach, Sphere}
use Rattle.camera.specs.Cameras.{has_reach, fits_sphere, reach_x, reach_y, HasRanges, HasReach, FitsSphere, IsCamera}
use Rattle.camera.specs.Opening.{camera_tests, first_failing, camera_by, camera_of}
use Rattle.camera.proofs.OpeningLemmas.{answer}
use Rattle.camera.proofs.RangeLemmas.{is_at_most, at_most, has_ranges, from_ranges}

-- ---- the two tests, and what they test

pub reach_holds : (k : CameraFields) → has_reach k ≡ true → HasReach k
reach_holds k h = let p = and_parts (int_le (reach_x k) (pos 17000000)) (int_le (reach_y k) (pos 17000000)) h in record { x = is_at_most _ _ p.0; y = is_at_most _ _ p.1 }

pub reach_tested : (k : CameraFields) → HasReach k → has_reach k ≡ true
reach_tested k h = rw (at_most (reach_x k) (pos 17000000) h.x, at_most (reach_y k) (pos 17000000) h.y) refl

pub sphere_holds : (k : CameraFields) → fits_sphere k ≡ true → FitsSphere k
sphere_holds k h = record { fits = is_at_most _ _ h }

pub sphere_tested : (k : CameraFields) → FitsSphere k → fits_sphere k ≡ true
sphere_tested k h = at_most _ _ h.fits

not_true : (b : Bool) → (b ≡ true → ⊥) → b ≡ false
not_true true never = absurd (never refl)
not_true false never = refl

not_false : (b : Bool) → b ≡ false → b ≡ true → ⊥
not_false b f t = false≢true (sym f ∙ t)

-- ---- the outcome, by the first field that fails and the two tests

outcome : Option ℕ → (reach sphere : Bool) → CameraFields → Result CameraFields BadCamera
outcome (Some n) reach sphere k = Err (Field n)
outcome None reach sphere k = cond reach (cond sphere (Ok k) (Err Sphere)) (Err Reach)

by_field : (failing : Option ℕ) (k : CameraFields) → camera_by failing k ≡ outcome failing (has_reach k) (fits_sphere k) k
unfolding outcome
by_field (Some n) k = refl
by_field None k = refl

camera_is : (k : CameraFields) → camera_of k ≡ outcome (first_failing 2 (camera_tests k)) (has_reach k) (fits_sphere k) k
unfolding camera_of
camera_is k = by_field (first_failing 2 (camera_tests k)) k

-- ---- which outcome comes when

field_when : (o : Option ℕ) (reach sphere : Bool) (k : CameraFields) (n : ℕ) → (outcome o reach sphere k ≡ Err (Field n)) ↔ (o ≡ Some n)
unfolding outcome
field_when (Some m) reach sphere k n = (λ e. cc, λ e. cc)
field_when None true true k n = (λ e. absurd cc, λ e. absurd cc)
field_when None true false k n = (λ e. absurd cc, λ e. absurd cc)
field_when None false sphere k n = (λ e. absurd cc, λ e. absurd cc)

reach_when : (o : Option ℕ) (reach sphere : Bool) (k : CameraFields) → (outcome o reach sphere k ≡ Err Reach) ↔ ((o ≡ None) × (reach ≡ false))
unfolding outcome
reach_when (Some m) reach sphere k = (λ e. absurd cc, λ p. let e = p.0 in absurd cc)
reach_when None true true k = (λ e. absurd cc, λ p. let e = p.1 in absurd cc)
reach_when None true false k = (λ e. absurd cc, λ p. let e = p.1 in absurd cc)
reach_when None false sphere k = (λ e. (refl, refl), λ p. refl)

sphere_when : (o : Option ℕ) (reach sphere : Bool) (k : CameraFields) → (outcome o reach sphere k ≡ Err Sphere) ↔ ((o ≡ None) × (reach ≡ true) × (sphere ≡ false))
unfolding outcome
sphere_when (Some m) reach sphere k = (λ e. absurd cc, λ p. let e = p.0 in absurd cc)
sphere_when None true true k = (λ e. absurd cc, λ p. let e = p.2 in absurd cc)
sphere_when None true false k = (λ e. (refl, refl, refl), λ p. refl)
sphere_when None false sphere k = (λ e. absurd cc, λ p. let e = p.1 in absurd cc)

-- ---- the same of the camera of the fields

pub field_refused : (k : CameraFields) (n : ℕ) → (camera_of k ≡ Err (Field n)) ↔ (first_failing 2 (camera_tests k) ≡ Some n)
field_refused k n =
    let p = field_when (first_failing 2 (camera_tests k)) (has_reach k) (fits_sphere k) k n in
    (λ e. p.0 (sym (camera_is k) ∙ e), λ e. camera_is k ∙ p.1 e)

pub reach_refused : (k : CameraFields) → (camera_of k ≡ Err Reach) ↔ (HasRanges k × (¬ HasReach k))
reach_refused k =
    let p = reach_when (first_failing 2 (camera_tests k)) (has_reach k) (fits_sphere k) k in (
      λ e. let q = p.0 (sym (camera_is k) ∙ e) in (has_ranges k q.0, λ h. not_false (has_reach k) q.1 (reach_tested k h)),
      λ r. camera_is k ∙ p.1 (from_ranges k r.0, not_true (has_reach k) (λ t. r.1 (reach_holds k t))),
    )

pub sphere_refused : (k : CameraFields) → (camera_of k ≡ Err Sphere) ↔ (HasRanges k × HasReach k × (¬ FitsSphere k))
sphere_refused k =
    let p = sphere_when (first_failing 2 (camera_tests k)) (has_reach k) (fits_sphere k) k in (
      λ e. let q = p.0 (sym (camera_is k) ∙ e) in (has_ranges k q.0, reach_holds k q.1, λ h. not_false (fits_sphere k) q.2 (sphere_tested k h)),
      λ r. camera_is k ∙ p.1 (from_ranges k r.0, reach_tested k r.1, not_true (fits_sphere k) (λ t. r.2 (sphere_holds k t))),
    )

pub whole_camera : (k : CameraFields) → IsCamera k → camera_of k ≡ Ok k
unfolding outcome
whole_camera k c = camera_is k ∙ rw (from_ranges k c.ranges, reach_tested k c.reach, sphere_tested k c.sphere) refl

-- ---- the answer, by the tests as they are run

pub refused_field : (k : CameraFields) (n : ℕ) → Some n ≡ first_failing 2 (camera_tests k) → Err (Field n) ≡ camera_of k
refused_field k n is = sym ((field_refused k n).1 (sym is))

err_by : (reach sphere : Bool) (bad : BadCamera) (k : CameraFields) → answer reach sphere ≡ Err bad → Err bad ≡ outcome None reach sphere k
unfolding outcome
err_by true true bad k e = absurd cc
err_by true false bad k e = cc
err_by false sphere bad k e = cc

pub refused_opening : (k : CameraFields) (bad : BadCamera) (r : Result ⊤ BadCamera) → None ≡ first_failing 2 (camera_tests k) → r ≡ answer (has_reach k) (fits_sphere k) → r ≡ Err bad → Err bad ≡ camera_of k
refused_opening k bad r none is was = err_by (has_reach k) (fits_sphere k) bad k (sym is ∙ was) ∙ sym (camera_is k ∙ ap (λ (o : Option ℕ). outcome o (has_reach k) (fits_sphere k) k) (sym none))

ok_by : (reach sphere : Bool) → answer reach sphere ≡ Ok tt → (reach ≡ true) × (sphere ≡ true)
ok_by true true e = (refl, refl)
ok_by true false e = absurd cc
ok_by false sphere e = absurd cc

pub passed_all : (k : CameraFields) (r : Result ⊤ BadCamera) → None ≡ first_failing 2 (camera_tests k) → r ≡ answer (has_reach k) (fits_sphere k) → r ≡ Ok tt → IsCamera k
passed_all k r none is was =
    let p = ok_by (has_reach k) (fits_sphere k) (sym is ∙ was) in
    record { ranges = has_ranges k (sym none); reach = reach_holds k p.0; sphere = sphere_holds k p.1 }
