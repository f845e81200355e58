-- The configuration: one JSON object with eighteen names, each with a whole number in its range.
use Rattle.std.specs.Prelude.{◌≡◌, ℕ, ◌≤◌, ◌==◌, ◌&&◌, ℤ, pos, ◌≤ℤ◌, unsigned_abs, List, [], ◌∷◌, codes, Bool, true, if◌then◌else◌, Option, None, Some, option_and_then, is_some, Result, Ok, Err, ok_or, ⊤}
use Rattle.std.specs.List.{list_all}
use Rattle.std.specs.Str.{is_utf8}
use Rattle.std.specs.Int.{is_power_of_two}
use Rattle.serde_json.specs.Data.{Data, Members}
use Rattle.serde_json.specs.Read.{read}
use Rattle.serde_json.specs.Find.{get, as_number, as_i64, as_object}
use Rattle.serde_json.specs.Events.{members_len}
use Rattle.scan_io.specs.Reading.{Cause, refused, no_memory, turned}
use Rattle.scan_io.specs.Steps.{◌>>=◌}
use Rattle.camera.specs.declared.camera.CameraFields.{CameraFields}
use Rattle.scan_lang.specs.declared.config.BadConfig.{BadConfig}
use Rattle.scan_lang.specs.declared.config.BadConfig.TheVariants.{Json, Names, Field, Reach, Sphere}
use Rattle.scan_lang.specs.declared.config.ConfigError.{ConfigError}
use Rattle.scan_lang.specs.declared.config.ConfigError.TheVariants as errors
use Rattle.scan_lang.specs.declared.config.ConfigFields.{ConfigFields}
use Rattle.camera.specs.declared.camera.BadCamera.{BadCamera}
use Rattle.camera.specs.declared.camera.BadCamera.TheVariants as cameras
use Rattle.camera.specs.Cameras.{within, IsCamera}
use Rattle.camera.specs.Opening.{first_failing, camera_of}

-- the names, in the order of their numbers
abbrev pub names : List (List ℕ)
names = codes "version" ∷ codes "width" ∷ codes "height" ∷ codes "fx" ∷ codes "fy" ∷ codes "cx" ∷ codes "cy" ∷ codes "unit" ∷ codes "near" ∷ codes "far" ∷ codes "voxel" ∷ codes "mu" ∷ codes "radius" ∷ codes "centre" ∷ codes "max_weight" ∷ codes "heap_blocks" ∷ codes "buckets" ∷ codes "empty_f" ∷ []

-- which cause an error is
abbrev pub config_cause : ConfigError → Cause BadConfig
config_cause (errors.Bad why) = refused why
config_cause errors.NoMemory = no_memory

-- ---- the object

abbrev pub object_in : Option Data → Result Data BadConfig
object_in None = Err Json
object_in (Some d) = if is_some (as_object d) then Ok d else Err Json

abbrev pub count_of : Option Members → ℕ
count_of None = 0
count_of (Some ms) = members_len ms

-- the object that the line is
unfoldable pub object_of : List ℕ → Result Data BadConfig
object_of line = if is_utf8 line then object_in (read line) else Err Json

-- it has the eighteen names and no other: an object has each name once
abbrev pub has_names : Data → Bool
has_names d = list_all (λ name. is_some (get name d)) names

abbrev pub is_named : Data → Bool
is_named d = (count_of (as_object d) == 18) && has_names d

unfoldable pub named : Data → Result ⊤ BadConfig
named d = if is_named d then Ok tt else Err Names

-- the whole number at a name, which is number n of the table
unfoldable pub integer_at : List ℕ → ℕ → Data → Result ℤ BadConfig
integer_at name n d = ok_or (option_and_then as_i64 (option_and_then as_number (get name d))) (Field n)

unfoldable pub camera_fields_of : Data → Result CameraFields BadConfig
camera_fields_of d = do
  width ← integer_at (codes "width") 2 d
  height ← integer_at (codes "height") 3 d
  fx ← integer_at (codes "fx") 4 d
  fy ← integer_at (codes "fy") 5 d
  cx ← integer_at (codes "cx") 6 d
  cy ← integer_at (codes "cy") 7 d
  unit ← integer_at (codes "unit") 8 d
  near ← integer_at (codes "near") 9 d
  far ← integer_at (codes "far") 10 d
  voxel ← integer_at (codes "voxel") 11 d
  mu ← integer_at (codes "mu") 12 d
  radius ← integer_at (codes "radius") 13 d
  centre ← integer_at (codes "centre") 14 d
  Ok (record { width = width; height = height; fx = fx; fy = fy; cx = cx; cy = cy; unit = unit; near = near; far = far; voxel = voxel; mu = mu; radius = radius; centre = centre })

unfoldable pub fields_of : Data → Result ConfigFields BadConfig
fields_of d = do
  version ← integer_at (codes "version") 1 d
  camera ← camera_fields_of d
  max_weight ← integer_at (codes "max_weight") 15 d
  heap_blocks ← integer_at (codes "heap_blocks") 16 d
  buckets ← integer_at (codes "buckets") 17 d
  empty_f ← integer_at (codes "empty_f") 18 d
  Ok (record { version = version; camera = camera; max_weight = max_weight; heap_blocks = heap_blocks; buckets = buckets; empty_f = empty_f })

-- ---- the ranges

abbrev pub refuse_field : Option ℕ → Result ⊤ BadConfig
refuse_field None = Ok tt
refuse_field (Some n) = Err (Field n)

-- each of the tests that begin with number n holds, or the first that fails is named
abbrev pub passed : ℕ → List Bool → Result ⊤ BadConfig
passed n tests = refuse_field (first_failing n tests)

unfoldable pub version_tests : ConfigFields → List Bool
version_tests f = within (pos 1) (pos 1) f.version ∷ []

unfoldable pub limit_tests : ConfigFields → List Bool
limit_tests f =
    within (pos 1) (pos 255) f.max_weight
    ∷ within (pos 1) (pos 65536) f.heap_blocks
    ∷ (within (pos 1) (pos 65536) f.buckets && is_power_of_two (unsigned_abs f.buckets))
    ∷ within (pos 0) (pos 32767) f.empty_f
    ∷ []

-- the refusal of a camera's fields
abbrev pub bad_camera : BadCamera → BadConfig
bad_camera (cameras.Field n) = Field n
bad_camera cameras.Reach = Reach
bad_camera cameras.Sphere = Sphere

-- ---- the whole

-- a configuration as contracts see it
pub record Config : Type 0 where
  pub version : ℕ
  pub camera : CameraFields
  pub max_weight : ℕ
  pub heap_blocks : ℕ
  pub buckets : ℕ
  pub empty_f : ℤ

-- the configuration that the fields make
abbrev pub made : ConfigFields → Config
made f = record { version = unsigned_abs f.version; camera = f.camera; max_weight = unsigned_abs f.max_weight; heap_blocks = unsigned_abs f.heap_blocks; buckets = unsigned_abs f.buckets; empty_f = f.empty_f }

-- the configuration of the fields, or the first of all tests that fails, in this order
unfoldable pub checked : ConfigFields → Result Config BadConfig
checked f = do
  version ← passed 1 (version_tests f)
  camera ← turned bad_camera (camera_of f.camera)
  limits ← passed 15 (limit_tests f)
  Ok (made f)

-- the configuration that an object is
unfoldable pub config_in : Data → Result Config BadConfig
config_in d = do
  all ← named d
  f ← fields_of d
  checked f

-- the configuration that a line is, or why it is none
unfoldable pub config_of : List ℕ → Result Config BadConfig
config_of line = do
  d ← object_of line
  config_in d

-- every field has its limits
pub record IsConfig (c : Config) : Type 0 where
  pub version : c.version ≡ 1
  pub camera : IsCamera c.camera
  pub max_weight : 1 ≤ c.max_weight
  pub max_weight_high : c.max_weight ≤ 255
  pub heap_blocks : 1 ≤ c.heap_blocks
  pub heap_blocks_high : c.heap_blocks ≤ 65536
  pub buckets : 1 ≤ c.buckets
  pub buckets_high : c.buckets ≤ 65536
  pub buckets_power : is_power_of_two c.buckets ≡ true
  pub empty_f : pos 0 ≤ℤ c.empty_f
  pub empty_f_high : c.empty_f ≤ℤ pos 32767
