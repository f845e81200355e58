-- The depth of a pixel, from the surfaces one after the other.
use Rattle.std.proofs.Common.{◌≡◌, ℕ, ◌+◌, ◌-◌, List, [], ◌∷◌, ◌++◌, refl, sym, ◌∙◌}
use Rattle.std.specs.Prelude.{ℤ, neg_ℤ, min}
use Rattle.fixed_geom.specs.Vectors.{dot}
use Rattle.scan_gen.specs.declared.view.View.{View}
use Rattle.scan_gen.specs.Scene.{least, plane_met, back_wall, ball_met, depth, ray, ray_square, discriminant_of, near_side}

least-append : (n : ℕ) (xs ys : List ℕ) → least n (xs ++ ys) ≡ least (least n xs) ys
least-append n [] ys = refl
least-append n (x ∷ xs) ys = least-append (min n x) xs ys

least_of_four : (n : ℕ) (a b c d : List ℕ) → least n (a ++ (b ++ (c ++ d))) ≡ least (least (least (least n a) b) c) d
least_of_four n a b c d = least-append n a (b ++ (c ++ d)) ∙ least-append (least n a) b (c ++ d) ∙ least-append (least (least n a) b) c d

pub depth_is : (w : View) (dx dy : ℤ) (row right left out : ℕ) (rs ls bs : List ℕ) → row ≡ least (back_wall w) (plane_met 1000000 dy)
    → rs ≡ plane_met (1400000 - w.x) dx → right ≡ least row rs → ls ≡ plane_met (1400000 + w.x) (neg_ℤ dx) → left ≡ least right ls → bs ≡ ball_met w dx dy → out ≡ least left bs → out ≡ depth w dx dy
unfolding depth
depth_is w dx dy row right left out rs ls bs e0 r1 e1 r2 e2 r3 e3 =
    rw (e3, r3, e2, r2, e1, r1, e0) (sym (least_of_four (back_wall w) (plane_met 1000000 dy) (plane_met (1400000 - w.x) dx) (plane_met (1400000 + w.x) (neg_ℤ dx)) (ball_met w dx dy)))

pub ball_met_is : (w : View) (dx dy along d : ℤ) (squared : ℕ) (out : List ℕ) → squared ≡ ray_square dx dy → along ≡ dot (ray dx dy) w.offset → d ≡ discriminant_of squared along w.power
    → out ≡ near_side squared along d → out ≡ ball_met w dx dy
unfolding ball_met
ball_met_is w dx dy along d squared out e f g h = rw (h, g, f, e) refl
