-- The point of a pixel's ray comes back from the world near its old position.
use Rattle.std.proofs.Common.{ℕ, arith}
use Rattle.std.specs.Prelude.{ℤ, pos, ◌≤ℤ◌, ◌<ℤ◌}
use Rattle.std.proofs.lemmas.Int.{ints}
use Rattle.fixed_geom.specs.Vectors.{IsWithin, AreWithin, minus}
use Rattle.fixed_geom.specs.Poses.{Pose, cam, world, IsPose}
use Rattle.fixed_geom.proofs.RoundTrip.{round_trip, near_round_trip}
use Rattle.camera.specs.declared.camera.CameraFields.{CameraFields}
use Rattle.camera.specs.Cameras.{HasRanges, drift, max_depth, reach_x, reach_y, ray}
use Rattle.camera.proofs.Active.{wide_drift}
use Rattle.camera.proofs.RayLemmas.{ray_bounds}

-- a pixel of the image
pub record IsPixel (k : CameraFields) (u v : ℤ) : Type 0 where
  pub u_low : pos 0 ≤ℤ u
  pub u_high : u <ℤ k.width
  pub v_low : pos 0 ≤ℤ v
  pub v_high : v <ℤ k.height

pub pixel_of : (k : CameraFields) (u v : ℕ) → pos u <ℤ k.width → pos v <ℤ k.height → IsPixel k (pos u) (pos v)
pixel_of k u v uw vh = record { u_low = natural u; u_high = uw; v_low = natural v; v_high = vh }
  where
    natural : (n : ℕ) → pos 0 ≤ℤ pos n
    natural n = omega (arith, ints)

-- its ray is within the reach
pub pixel_bounds : (k : CameraFields) (u v z : ℤ) → HasRanges k → IsPixel k u v → pos 1 ≤ℤ z → z ≤ℤ max_depth k → IsWithin (reach_x k) (ray k u v z).x × IsWithin (reach_y k) (ray k u v z).y
pixel_bounds k u v z r i front back = ray_bounds k u v z r i.u_low i.u_high i.v_low i.v_high front back

deep : (z top : ℤ) → pos 1 ≤ℤ z → z ≤ℤ top → IsWithin top z
deep z top h k = record { low = omega (arith, ints); high = omega (arith, ints) }

-- the point of its ray, brought to the world and back, moves by at most the drift
pub ray_back : (k : CameraFields) (m : Pose) (u v z : ℤ) → HasRanges k → IsPose m → IsPixel k u v → pos 1 ≤ℤ z → z ≤ℤ max_depth k → AreWithin (wide_drift k) (minus (cam m (world m (ray k u v z))) (ray k u v z))
ray_back k m u v z r o i front back =
    let b = pixel_bounds k u v z r i front back in
    round_trip m (ray k u v z) (reach_x k) (reach_y k) (max_depth k) o b.0 b.1 (deep z (max_depth k) front back)

pub ray_near_back : (k : CameraFields) (m : Pose) (u v z : ℤ) → HasRanges k → IsPose m → IsPixel k u v → pos 1 ≤ℤ z → z ≤ℤ max_depth k → AreWithin (drift k) (minus (cam m (world m (ray k u v z))) (ray k u v z))
ray_near_back k m u v z r o i front back =
    let b = pixel_bounds k u v z r i front back in
    near_round_trip m (ray k u v z) (reach_x k) (reach_y k) (max_depth k) o b.0 b.1 (deep z (max_depth k) front back)
