-- What the tests of a configuration show.
use Rattle.std.proofs.Common.{◌≡◌, ℕ, suc, ◌≤◌, List, [], ◌∷◌, length, Bool, true, false, Option, Some, None, Ok, Err, refl, ap, cond, arith, rules}
use Rattle.std.specs.Prelude.{String, ℤ, pos, ◌≤ℤ◌, is_some, unsigned_abs}
use Rattle.std.specs.declared.alloc.Global.{Global}
use Rattle.std.specs.Str.{IsUtf8, is_utf8}
use Rattle.std.proofs.lemmas.Int.{ints}
use Rattle.std.proofs.lemmas.Bool.{and_parts}
use Rattle.std.proofs.lemmas.Str.{IsUtf8-from_is_utf8, is_utf8-from_IsUtf8}
use mir.Val.{to_z, of_z, SFits}
use mir.Syntax.{w16, w64}
use Rattle.serde_json.specs.Data.{Data}
use Rattle.serde_json.specs.Read.{read}
use Rattle.serde_json.specs.Find.{as_object}
use Rattle.serde_json.specs.View.{members_view}
use Rattle.serde_json.specs.Events.{members_len}
use Rattle.serde_json.specs.declared.value.Value.{Value}
use Rattle.scan_io.specs.Reading.{turned}
use Rattle.camera.specs.declared.camera.CameraFields.{CameraFields}
use Rattle.camera.specs.Cameras.{within, IsCamera}
use Rattle.camera.proofs.RangeLemmas.{all_hold, between}
use Rattle.camera.specs.Opening.{camera_of}
use Rattle.scan_lang.specs.declared.config.BadConfig.{BadConfig}
use Rattle.scan_lang.specs.declared.config.BadConfig.TheVariants.{Json}
use Rattle.scan_lang.specs.declared.config.ConfigFields.{ConfigFields}
use Rattle.scan_lang.specs.Config.{object_of, object_in, refuse_field, passed, version_tests, limit_tests, bad_camera, made, checked, IsConfig}

-- ---- the object

-- an object has as many members as the map has entries
pub members_len-members_view : (es : List (String Global × Value)) → members_len (members_view es) ≡ length es
members_len-members_view [] = refl
members_len-members_view (e ∷ es) = ap suc (members_len-members_view es)

-- what is read and is an object is the object of the line
pub is_object : (line : List ℕ) (d : Data) → IsUtf8 line → read line ≡ Some d → is_some (as_object d) ≡ true → object_of line ≡ Ok d
unfolding object_of
is_object line d utf8 is obj = rw (is_utf8-from_IsUtf8 line utf8, is, obj) refl

not_read_at : (line : List ℕ) (b : Bool) → is_utf8 line ≡ b → (IsUtf8 line → read line ≡ None) → cond b (object_in (read line)) (Err Json) ≡ Err Json
not_read_at line true e none = rw (none (IsUtf8-from_is_utf8 line e)) refl
not_read_at line false e none = refl

pub is_not_read : (line : List ℕ) → (IsUtf8 line → read line ≡ None) → object_of line ≡ Err Json
unfolding object_of
is_not_read line none = not_read_at line (is_utf8 line) refl none

-- ---- the ranges

-- where no field is refused, none fails
none_refused : (failing : Option ℕ) → refuse_field failing ≡ Ok tt → failing ≡ None
none_refused None h = refl
none_refused (Some n) h = absurd cc

size_between : (low high : ℕ) (z : ℤ) → within (pos low) (pos high) z ≡ true → (low ≤ unsigned_abs z) × (unsigned_abs z ≤ high)
size_between low high z h = let p = between (pos low) (pos high) z h in (omega (arith, ints), omega (arith, ints))

just_one : (n : ℕ) → (1 ≤ n) × (n ≤ 1) → n ≡ 1
just_one n both = omega (arith, both.0, both.1)

-- the configuration of fields that passed all tests
pub made_is_config : (f : ConfigFields) → passed 1 (version_tests f) ≡ Ok tt → IsCamera f.camera → passed 15 (limit_tests f) ≡ Ok tt → IsConfig (made f)
unfolding version_tests limit_tests
made_is_config f first camera limits =
    let t = all_hold 15 (limit_tests f) (none_refused _ limits) in
    let max_weight = size_between 1 255 f.max_weight t.0 in
    let heap_blocks = size_between 1 65536 f.heap_blocks t.1.0 in
    let both = and_parts _ _ t.1.1.0 in
    let buckets = size_between 1 65536 f.buckets both.0 in
    let empty_f = between (pos 0) (pos 32767) f.empty_f t.1.1.1.0 in
    record {
      version = just_one (unsigned_abs f.version) (size_between 1 1 f.version (all_hold 1 (version_tests f) (none_refused _ first)).0);
      camera = camera;
      max_weight = max_weight.0;
      max_weight_high = max_weight.1;
      heap_blocks = heap_blocks.0;
      heap_blocks_high = heap_blocks.1;
      buckets = buckets.0;
      buckets_high = buckets.1;
      buckets_power = both.1;
      empty_f = empty_f.0;
      empty_f_high = empty_f.1;
    }

-- a number from 0 to 32767 keeps its value in 64 and in 16 bits
pub fits_64 : (z : ℤ) → pos 0 ≤ℤ z → z ≤ℤ pos 32767 → to_z w64 (of_z w64 z) ≡ z
fits_64 z low high = omega (arith, ints)

pub fits_16 : (z : ℤ) → pos 0 ≤ℤ z → z ≤ℤ pos 32767 → SFits w16 z
fits_16 z low high = search (rules, ints)

-- ---- the tests in their order

-- the limits are tried last
pub limits_bad : (f : ConfigFields) (k : CameraFields) (why : BadConfig) → passed 1 (version_tests f) ≡ Ok tt → turned bad_camera (camera_of f.camera) ≡ Ok k → passed 15 (limit_tests f) ≡ Err why → checked f ≡ Err why
unfolding checked
limits_bad f k why version camera limits = rw (version, camera, limits) refl
