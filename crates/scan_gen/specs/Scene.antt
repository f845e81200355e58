-- The scene of a generated scan: four planes and a ball, and how deep each pixel sees it. Lengths are in micrometres.
use Rattle.std.specs.Prelude.{ℕ, zero, suc, ◌+◌, ◌-◌, ◌*◌, ◌/◌, ◌%◌, ◌^◌, ◌≤◌, ◌&&◌, min, nat_le, if◌then◌else◌, List, [], ◌∷◌, ◌++◌, ℤ, pos, neg_ℤ, ◌-ℤ◌, ◌*ℤ◌, ◌≤ℤ◌, int_lt, unsigned_abs}
use Rattle.std.specs.Int.Signed.{le_z}
use Rattle.fixed_geom.specs.declared.vector.Vec3.{Vec3}
use Rattle.fixed_geom.specs.Vectors.{vec, minus, dot, IsWithin, AreWithin}
use Rattle.scan_gen.specs.declared.ball.Ball.{Ball}
use Rattle.scan_gen.specs.declared.view.View.{View}

-- ---- the ball of a seed

-- the number after x
abbrev pub next_number : ℕ → ℕ
next_number x = (6364136223846793005 * x + 1442695040888963407) % 2 ^ 64

-- number n of a seed; number 0 is the seed
abbrev pub number_at : (seed : ℕ) → ℕ → ℕ
number_at seed zero = seed
number_at seed (suc n) = next_number (number_at seed n)

-- number n without its lowest 33 bits
abbrev pub drawn : (seed : ℕ) → ℕ → ℕ
drawn seed n = number_at seed n / 2 ^ 33

-- its centre and its radius
unfoldable pub ball_of : (seed : ℕ) → Ball
ball_of seed = record {
  centre = vec (pos (drawn seed 1 % 800001) -ℤ pos 400000) (pos (drawn seed 2 % 400001) -ℤ pos 200000) (pos (1500000 + drawn seed 3 % 400001));
  radius = 200000 + drawn seed 4 % 200001;
}

-- the bounds of every ball
pub record IsInScene (b : Ball) : Type 0 where
  pub x : IsWithin (pos 400000) b.centre.x
  pub y : IsWithin (pos 200000) b.centre.y
  pub near : pos 1500000 ≤ℤ b.centre.z
  pub far : b.centre.z ≤ℤ pos 1900000
  pub radius : b.radius ≤ 400000

-- ---- a frame's view

-- frame k stands at (x, 0, z)
abbrev pub x_of : ℕ → ℕ
x_of k = 20000 * (k % 40)

abbrev pub z_of : ℕ → ℕ
z_of k = 10000 * (k % 20)

-- the square of a length
abbrev pub square : ℕ → ℤ
square n = pos (n * n)

-- where frame k stands, the offset of the ball's centre from there, and the square of that distance less the square of the radius
unfoldable pub view_of : Ball → (k : ℕ) → View
view_of b k =
    let offset = minus b.centre (vec (pos (x_of k)) (pos 0) (pos (z_of k))) in
    record { x = x_of k; z = z_of k; offset = offset; power = dot offset offset -ℤ square b.radius }

-- the bounds of every view
pub record IsInBounds (w : View) : Type 0 where
  pub x : w.x ≤ 780000
  pub z : w.z ≤ 190000
  -- 2^22
  pub offset : AreWithin (pos 4194304) w.offset
  -- 2^51
  pub power : IsWithin (pos 2251799813685248) w.power
  -- the frame stands outside the ball
  pub outside : pos 0 ≤ℤ w.power

-- ---- pixels

-- the focal length, in units of 2^-16 pixels
abbrev pub focal : ℕ
focal = 34406400

-- the offsets of a pixel in column u and row v from the principal point, in these units
abbrev pub column_offset : ℕ → ℤ
column_offset u = pos (65536 * u) -ℤ pos 20938752

abbrev pub row_offset : ℕ → ℤ
row_offset v = pos (65536 * v) -ℤ pos 15695872

-- the ray of a pixel at these offsets
abbrev pub ray : (dx dy : ℤ) → Vec3
ray dx dy = vec dx dy (pos focal)

-- its square
abbrev pub ray_square : (dx dy : ℤ) → ℕ
ray_square dx dy = (unsigned_abs dx * unsigned_abs dx + unsigned_abs dy * unsigned_abs dy) + focal * focal

-- ---- depths

-- how deep a plane is met that is parallel to the optical axis, at a distance from it on the side to which the offset is positive: by rays to that side alone
abbrev pub plane_met : (distance : ℕ) → ℤ → List ℕ
plane_met distance offset = if int_lt (pos 0) offset then distance * focal / unsigned_abs offset ∷ [] else []

-- the greatest whole number up to k whose square is at most n
abbrev pub greatest_root : (n : ℕ) → ℕ → ℕ
greatest_root n zero = 0
greatest_root n (suc k) = if nat_le (suc k * suc k) n then suc k else greatest_root n k

-- the greatest whole number whose square is at most n
unfoldable pub root : ℕ → ℕ
root n = greatest_root n n

-- how deep a ball is met: along is the product of the ray and the offset of its centre, discriminant that of the equation for the points of the ray on the ball.
-- It is met where it is before the camera and the equation has a solution; the lesser one is the near side. Every frame stands outside the ball, so along is at least the root: `near_side` in src/depth.rt subtracts them as they are
abbrev pub near_side : (squared : ℕ) → (along discriminant : ℤ) → List ℕ
near_side squared along discriminant =
    if int_lt (pos 0) along && le_z (pos 0) discriminant then focal * (unsigned_abs along - root (unsigned_abs discriminant)) / squared ∷ [] else []

abbrev pub discriminant_of : (squared : ℕ) → (along power : ℤ) → ℤ
discriminant_of squared along power = (along *ℤ along) -ℤ (pos squared *ℤ power)

unfoldable pub ball_met : View → (dx dy : ℤ) → List ℕ
ball_met w dx dy =
    let along = dot (ray dx dy) w.offset in
    near_side (ray_square dx dy) along (discriminant_of (ray_square dx dy) along w.power)

-- the least of a number and a list
abbrev pub least : ℕ → List ℕ → ℕ
least n [] = n
least n (x ∷ xs) = least (min n x) xs

-- the depths of the surfaces that a ray meets besides the back wall: the floor, the right wall, the left wall and the ball
abbrev pub surfaces : View → (dx dy : ℤ) → List ℕ
surfaces w dx dy = plane_met 1000000 dy ++ (plane_met (1400000 - w.x) dx ++ (plane_met (1400000 + w.x) (neg_ℤ dx) ++ ball_met w dx dy))

-- the back wall's depth
abbrev pub back_wall : View → ℕ
back_wall w = 2500000 - w.z

-- the depth of the nearest surface
unfoldable pub depth : View → (dx dy : ℤ) → ℕ
depth w dx dy = least (back_wall w) (surfaces w dx dy)

-- the sample of a depth, in millimetres
abbrev pub sample_of : ℕ → ℕ
sample_of d = d / 1000

-- the sample in column u of row v
abbrev pub sample : View → (u v : ℕ) → ℕ
sample w u v = sample_of (depth w (column_offset u) (row_offset v))
