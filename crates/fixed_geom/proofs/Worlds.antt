-- How far a world point may lie from the origin, by the bounds of the pose alone.
use Rattle.std.proofs.Common.{arith}
use Rattle.std.specs.Prelude.{ℤ, pos, ◌+ℤ◌, ◌*ℤ◌, ◌≤ℤ◌}
use Rattle.std.proofs.lemmas.Int.{ints}
use Rattle.fixed_geom.specs.Division.{IsFloor, floor_div}
use Rattle.fixed_geom.specs.declared.vector.Vec3.{Vec3}
use Rattle.fixed_geom.specs.Vectors.{IsWithin, AreWithin, dot}
use Rattle.fixed_geom.specs.Poses.{Pose, unit, world, entry_bound, translation_bound, HasPoseRange, row_x, row_y, row_z}
use Rattle.fixed_geom.proofs.Floors.{floor_is}
use Rattle.fixed_geom.proofs.Dots.{within_dot, unit_positive}

-- the floor of a bounded number, over plain numbers: n bounds the coordinates, k the floor
pub floor_within : (x w n k : ℤ) → IsFloor x unit w → IsWithin (pos 3 *ℤ (entry_bound *ℤ n)) x → (pos 3 *ℤ (entry_bound *ℤ n)) ≤ℤ (unit *ℤ k) → IsWithin k w
floor_within x w n k is h le = record { low = omega (arith, ints, is.below, is.above, h.low, h.high); high = omega (arith, ints, is.below, is.above, h.low, h.high) }

moved : (t w k : ℤ) → IsWithin translation_bound t → IsWithin k w → IsWithin (translation_bound +ℤ k) (t +ℤ w)
moved t w k a b = record { low = omega (arith, ints); high = omega (arith, ints) }

on_axis : (r v : Vec3) (t n k : ℤ) → AreWithin entry_bound r → IsWithin translation_bound t → AreWithin n v → (pos 3 *ℤ (entry_bound *ℤ n)) ≤ℤ (unit *ℤ k) → IsWithin (translation_bound +ℤ k) (t +ℤ floor_div (dot r v) unit)
on_axis r v t n k small far near le = moved t (floor_div (dot r v) unit) k far (floor_within (dot r v) (floor_div (dot r v) unit) n k (floor_is (dot r v) unit unit_positive) (within_dot entry_bound n r v small near) le)

-- the world point of a camera point whose coordinates are within n
pub world_within : (m : Pose) (v : Vec3) (n k : ℤ) → HasPoseRange m → AreWithin n v → (pos 3 *ℤ (entry_bound *ℤ n)) ≤ℤ (unit *ℤ k) → AreWithin (translation_bound +ℤ k) (world m v)
world_within m v n k r near le = record {
  x = on_axis (row_x m) v m.t.x n k r.x r.t.x near le;
  y = on_axis (row_y m) v m.t.y n k r.y r.t.y near le;
  z = on_axis (row_z m) v m.t.z n k r.z r.t.z near le;
}

enough : (pos 3 *ℤ (entry_bound *ℤ pos 17000000)) ≤ℤ (unit *ℤ pos 51006226)
enough = omega (arith, ints)

-- the world point of a camera point within 17 metres on each axis is within 151006226 of the origin on each axis
pub world_bound : (m : Pose) (v : Vec3) → HasPoseRange m → AreWithin (pos 17000000) v → AreWithin (pos 151006226) (world m v)
world_bound m v r near = world_within m v (pos 17000000) (pos 51006226) r near enough
