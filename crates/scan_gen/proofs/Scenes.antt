-- The ball of a seed and the view of a frame, from their numbers.
use Rattle.std.proofs.Common.{◌≡◌, ℕ, ◌+◌, ◌/◌, ◌%◌, ◌^◌, refl}
use Rattle.std.specs.Prelude.{ℤ, pos, ◌-ℤ◌}
use Rattle.fixed_geom.specs.declared.vector.Vec3.{Vec3}
use Rattle.fixed_geom.specs.Vectors.{vec, minus, dot}
use Rattle.scan_gen.specs.declared.ball.Ball.{Ball}
use Rattle.scan_gen.specs.Scene.{next_number, ball_of, x_of, z_of, square, view_of}

ball : Vec3 → ℕ → Ball
ball centre radius = record { centre = centre; radius = radius }

pub ball_is : (seed a b c d : ℕ) (x y z : ℤ) (r : ℕ) → a ≡ next_number seed → b ≡ next_number a → c ≡ next_number b → d ≡ next_number c
    → x ≡ pos (a / 2 ^ 33 % 800001) -ℤ pos 400000 → y ≡ pos (b / 2 ^ 33 % 400001) -ℤ pos 200000 → z ≡ pos (1500000 + c / 2 ^ 33 % 400001) → r ≡ 200000 + d / 2 ^ 33 % 200001
    → record { centre = vec x y z; radius = r } ≡ ball_of seed
unfolding ball_of
ball_is seed a b c d x y z r e0 e1 e2 e3 f0 f1 f2 f3 = rw (f0, f1, f2, f3, e3, e2, e1, e0) refl

pub view_is : (b : Ball) (k x z : ℕ) (o : Vec3) (power : ℤ) → x ≡ x_of k → z ≡ z_of k → o ≡ minus b.centre (vec (pos x) (pos 0) (pos z)) → power ≡ dot o o -ℤ square b.radius
    → record { x = x; z = z; offset = o; power = power } ≡ view_of b k
unfolding view_of
view_is b k x z o power e f g h = rw (h, g, f, e) refl
