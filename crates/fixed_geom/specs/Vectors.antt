-- Points and offsets in whole micrometres: bounds, differences and products.
use Rattle.std.specs.Prelude.{ℤ, neg_ℤ, ◌+ℤ◌, ◌-ℤ◌, ◌*ℤ◌, ◌≤ℤ◌}
use Rattle.fixed_geom.specs.declared.vector.Vec3.{Vec3}

-- the vector of three coordinates
abbrev pub vec : ℤ → ℤ → ℤ → Vec3
vec x y z = record { x = x; y = y; z = z }

-- z is at most n in size
pub record IsWithin (n z : ℤ) : Type 0 where
  pub low : (neg_ℤ n) ≤ℤ z
  pub high : z ≤ℤ n

-- so is each coordinate
pub record AreWithin (n : ℤ) (v : Vec3) : Type 0 where
  pub x : IsWithin n v.x
  pub y : IsWithin n v.y
  pub z : IsWithin n v.z

-- the offset of p from q
abbrev pub minus : Vec3 → Vec3 → Vec3
minus p q = vec (p.x -ℤ q.x) (p.y -ℤ q.y) (p.z -ℤ q.z)

-- the sum of the products of the coordinates
abbrev pub dot : Vec3 → Vec3 → ℤ
dot a b = (a.x *ℤ b.x) +ℤ (a.y *ℤ b.y) +ℤ (a.z *ℤ b.z)

-- the cross product
abbrev pub cross : Vec3 → Vec3 → Vec3
cross a b = vec ((a.y *ℤ b.z) -ℤ (a.z *ℤ b.y)) ((a.z *ℤ b.x) -ℤ (a.x *ℤ b.z)) ((a.x *ℤ b.y) -ℤ (a.y *ℤ b.x))
