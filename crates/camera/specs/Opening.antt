-- Which fields make a camera, and why others do not.
use Rattle.std.specs.Prelude.{ℕ, ◌+◌, Bool, true, false, if◌then◌else◌, List, [], ◌∷◌, map, Option, None, Some, Result, Ok, Err}
use Rattle.camera.specs.declared.camera.CameraFields.{CameraFields}
use Rattle.camera.specs.declared.camera.BadCamera.{BadCamera}
use Rattle.camera.specs.declared.camera.BadCamera.TheVariants.{Field, Reach, Sphere}
use Rattle.camera.specs.Cameras.{within, ranges_of, has_reach, fits_sphere}

-- the number of the first test that fails, where the first test has number n
abbrev pub first_failing : ℕ → List Bool → Option ℕ
first_failing n [] = None
first_failing n (true ∷ tests) = first_failing (n + 1) tests
first_failing n (false ∷ tests) = Some n

-- whether each field is in its range
unfoldable pub camera_tests : CameraFields → List Bool
camera_tests k = map (λ r. within r.0 r.2 r.1) (ranges_of k)

-- by the number of the first field out of its range, if there is one; then come the reach and the sphere
abbrev pub camera_by : Option ℕ → CameraFields → Result CameraFields BadCamera
camera_by (Some n) k = Err (Field n)
camera_by None k = if has_reach k then (if fits_sphere k then Ok k else Err Sphere) else Err Reach

-- the camera of the fields, or the first test that fails
unfoldable pub camera_of : CameraFields → Result CameraFields BadCamera
camera_of k = camera_by (first_failing 2 (camera_tests k)) k
