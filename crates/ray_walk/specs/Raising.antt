-- Quotients with no division: by a reciprocal, of coordinates that are raised, so that none is below 0.
use Rattle.std.specs.Prelude.{ℕ, ◌+◌, ◌-◌, ◌/◌, ℤ, pos, ◌+ℤ◌, ◌-ℤ◌, ◌*ℤ◌}
use Rattle.fixed_geom.specs.declared.vector.Vec3.{Vec3}
use Rattle.fixed_geom.specs.Division.{floor_div}
use Rattle.fixed_geom.specs.Vectors.{vec}

-- the reciprocal of n in parts of p, rounded up
abbrev pub reciprocal : (p n : ℕ) → ℕ
reciprocal p n = (p - 1) / n + 1

-- what the coordinates x and y of a ray's point are raised by: one micrometre more than 17 metres
abbrev pub ray_raise : ℤ
ray_raise = pos 17000001

-- a ray's point as it was before it was raised
abbrev pub lowered : Vec3 → Vec3
lowered p = vec (p.x -ℤ ray_raise) (p.y -ℤ ray_raise) p.z

-- what a coordinate of the world is raised by: half a voxel of the size s, by floor, and n blocks
abbrev pub world_raise : (s n : ℤ) → ℤ
world_raise s n = floor_div s (pos 2) +ℤ pos 8 *ℤ s *ℤ n
