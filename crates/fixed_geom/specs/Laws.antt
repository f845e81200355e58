-- What is proved of every pose, and of quotients that are made by a product.
use Rattle.std.specs.Prelude.{ℕ, ◌≡◌, ◌+◌, ◌*◌, ◌/◌, ◌<◌, ℤ, pos, ◌+ℤ◌, ◌*ℤ◌, ◌≤ℤ◌, ◌<ℤ◌}
use Rattle.fixed_geom.specs.Division.{floor_div}
use Rattle.fixed_geom.specs.declared.vector.Vec3.{Vec3}
use Rattle.fixed_geom.specs.Vectors.{AreWithin}
use Rattle.fixed_geom.specs.Poses.{Pose, HasPoseRange, world}

-- the world point of a camera point within 17 metres on each axis is within 151006226 of the origin on each axis
abbrev pub WorldBound : Type 0
WorldBound = (m : Pose) (v : Vec3) → HasPoseRange m → AreWithin (pos 17000000) v → AreWithin (pos 151006226) (world m v)

-- where m / p is so little above a / f that m f = a p + d with n d < p, the product n m / p has the floor of a n / f
abbrev pub ProductFloor : Type 0
ProductFloor = (a n f m p d : ℕ) → 0 < f → m * f ≡ a * p + d → n * d < p → n * m / p ≡ a * n / f

-- the same of numbers that may be below 0
abbrev pub SignedProductFloor : Type 0
SignedProductFloor = (a n f m p d : ℤ) → pos 1 ≤ℤ f → pos 1 ≤ℤ p → f *ℤ m ≡ (a *ℤ p) +ℤ d → pos 0 ≤ℤ (n *ℤ d) → (n *ℤ d) <ℤ p → floor_div (n *ℤ m) p ≡ floor_div (a *ℤ n) f
