-- The drift of a ray's points.
use Rattle.std.proofs.Common.{◌≡◌, refl, ◌∙◌, arith}
use Rattle.std.specs.Prelude.{ℤ, pos, ◌+ℤ◌, ◌≤ℤ◌}
use Rattle.std.proofs.lemmas.Int.{ints, to_z-of_z}
use mir.Val.{SFits, to_z, of_z}
use mir.Syntax.{w64}
use Rattle.fixed_geom.specs.Division.{IsFloor, floor_div}
use Rattle.fixed_geom.proofs.Floors.{floor_is}
use Rattle.camera.specs.declared.camera.CameraFields.{CameraFields}
use Rattle.camera.specs.Cameras.{DriftsWithin, HasRanges, drift}
use Rattle.camera.proofs.RayBack.{pixel_of, ray_near_back}

pub drifts_within : (k : CameraFields) → HasRanges k → DriftsWithin k (drift k)
drifts_within k r m u v z o column row front deep = ray_near_back k m (pos u) (pos v) z r o (pixel_of k u v column row) front deep

-- ---- as the code finds it

abbrev read : ℤ → ℤ
read z = to_z w64 (of_z w64 z)

-- what rounding adds to the reach of three distances of at most 17 metres
pub few : (r x y z : ℤ) → r ≡ floor_div (read x +ℤ read y +ℤ read z) (pos 4096) → SFits w64 x → SFits w64 y → SFits w64 z → x ≤ℤ pos 17000000 → y ≤ℤ pos 17000000 → z ≤ℤ pos 17000000 → r ≤ℤ pos 12451
few r x y z e fx fy fz xh yh zh =
    plain x y z r (e ∙ rw (to_z-of_z w64 x fx, to_z-of_z w64 y fy, to_z-of_z w64 z fz) refl) xh yh zh
  where
    plain : (x y z r : ℤ) → r ≡ floor_div (x +ℤ y +ℤ z) (pos 4096) → x ≤ℤ pos 17000000 → y ≤ℤ pos 17000000 → z ≤ℤ pos 17000000 → r ≤ℤ pos 12451
    plain x y z r e xh yh zh = below (x +ℤ y +ℤ z) r _ e (floor_is (x +ℤ y +ℤ z) (pos 4096) (omega (arith, ints))) (omega (arith, ints))
      where
        below : (s r q : ℤ) → r ≡ q → IsFloor s (pos 4096) q → s ≤ℤ pos 51000000 → r ≤ℤ pos 12451
        below s r q e i h = omega (arith, ints, i.below, i.above)

pub rounded_high : (r : ℤ) → pos 0 ≤ℤ r → r ≤ℤ pos 12451 → read (read r +ℤ pos 5) ≤ℤ pos 12456
rounded_high r low high = omega (arith, ints)
