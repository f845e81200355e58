-- How far the camera points of two world points are apart, by the bound on the entries alone.
use Rattle.std.proofs.Common.{◌≡◌, arith}
use Rattle.std.specs.Prelude.{ℤ, pos, ◌-ℤ◌, ◌*ℤ◌, ◌≤ℤ◌}
use Rattle.std.proofs.lemmas.Int.{ints}
use Rattle.fixed_geom.specs.declared.vector.Vec3.{Vec3}
use Rattle.fixed_geom.specs.Vectors.{IsWithin, AreWithin, dot, minus}
use Rattle.fixed_geom.specs.Poses.{Pose, cam_q30_axis, unit, cam_axis, cam, entry_bound, HasPoseRange, column_x, column_y, column_z}
use Rattle.fixed_geom.proofs.Floors.{floor_is, floor_near}
use Rattle.fixed_geom.proofs.Dots.{within_dot, cam_q30_axis_difference, unit_positive, columns_small}

widened : (n k x y : ℤ) → y ≡ x → n ≤ℤ k → IsWithin n x → IsWithin k y
widened n k x y e le w = record { low = omega (arith, ints); high = omega (arith, ints) }

-- points within h have camera coordinates within k, where k is large enough for h
pub step_within : (c t p q : Vec3) (h k : ℤ) → AreWithin entry_bound c → AreWithin h (minus p q) → (pos 3 *ℤ (entry_bound *ℤ h)) ≤ℤ (unit *ℤ k)
    → IsWithin k (cam_axis c t p -ℤ cam_axis c t q)
step_within c t p q h k small near large =
    floor_near (cam_q30_axis c t p) (cam_q30_axis c t q) unit k (cam_axis c t p) (cam_axis c t q) unit_positive (floor_is (cam_q30_axis c t p) unit unit_positive) (floor_is (cam_q30_axis c t q) unit unit_positive)
    (widened (pos 3 *ℤ (entry_bound *ℤ h)) (unit *ℤ k) (dot c (minus p q)) (cam_q30_axis c t p -ℤ cam_q30_axis c t q) (cam_q30_axis_difference c t p q) large (within_dot entry_bound h c (minus p q) small near))

size_four : (s : ℤ) → pos 0 ≤ℤ s → (pos 3 *ℤ (entry_bound *ℤ (pos 4 *ℤ s))) ≤ℤ (unit *ℤ (pos 13 *ℤ s))
size_four s h = omega (arith, ints)

size_half : (h s : ℤ) → pos 0 ≤ℤ s → (pos 2 *ℤ h) ≤ℤ (pos 9 *ℤ s) → (pos 3 *ℤ (entry_bound *ℤ h)) ≤ℤ (unit *ℤ (pos 14 *ℤ s))
size_half h s i k = omega (arith, ints)

-- points within 4 s of each other have camera points within 13 s
pub step_of_four : (m : Pose) (p q : Vec3) (s : ℤ) → HasPoseRange m → pos 0 ≤ℤ s → AreWithin (pos 4 *ℤ s) (minus p q) → AreWithin (pos 13 *ℤ s) (minus (cam m p) (cam m q))
step_of_four m p q s r h near =
    let c = columns_small m r in
    record {
      x = step_within (column_x m) m.t p q (pos 4 *ℤ s) (pos 13 *ℤ s) c.0 near (size_four s h);
      y = step_within (column_y m) m.t p q (pos 4 *ℤ s) (pos 13 *ℤ s) c.1 near (size_four s h);
      z = step_within (column_z m) m.t p q (pos 4 *ℤ s) (pos 13 *ℤ s) c.2 near (size_four s h);
    }

-- points within h of each other, where 2 h ≤ 9 s, have camera points within 14 s
pub step_of_half : (m : Pose) (p q : Vec3) (h s : ℤ) → HasPoseRange m → pos 0 ≤ℤ s → (pos 2 *ℤ h) ≤ℤ (pos 9 *ℤ s) → AreWithin h (minus p q) → AreWithin (pos 14 *ℤ s) (minus (cam m p) (cam m q))
step_of_half m p q h s r i k near =
    let c = columns_small m r in
    record {
      x = step_within (column_x m) m.t p q h (pos 14 *ℤ s) c.0 near (size_half h s i k);
      y = step_within (column_y m) m.t p q h (pos 14 *ℤ s) c.1 near (size_half h s i k);
      z = step_within (column_z m) m.t p q h (pos 14 *ℤ s) c.2 near (size_half h s i k);
    }
