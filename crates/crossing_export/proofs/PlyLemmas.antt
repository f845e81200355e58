-- The parts of the file of a list of points, written one after the other.
use Rattle.std.proofs.Common.{◌≡◌, ℕ, ◌≤◌, List, [], ◌∷◌, ◌++◌, length, drop, sym, ◌∙◌, append_assoc}
use Rattle.std.proofs.lemmas.List.{append-nil, drop_all}
use Rattle.std.specs.Prelude.{ℤ, codes}
use Rattle.std.specs.List.{flat_map}
use Rattle.std.specs.Fmt.{decimal, signed_decimal}
use Rattle.crossing_export.specs.declared.crossing.Crossing.{Crossing}
use Rattle.crossing_export.specs.Ply.{ply_head, ply_text, point_line}

-- the numbers of a point, written one after the other, are its line
pub line_written : (p : Crossing) (o o1 o2 o3 : List ℕ) (x y z : ℤ) → x ≡ p.x → y ≡ p.y → z ≡ p.z → o1 ≡ (o ++ signed_decimal x) ++ 32 ∷ [] → o2 ≡ (o1 ++ signed_decimal y) ++ 32 ∷ [] → o3 ≡ (o2 ++ signed_decimal z) ++ 10 ∷ []
    → o3 ≡ o ++ point_line p
line_written p o o1 o2 o3 x y z ex ey ez e1 e2 e3 = rw (e3, e2, e1, ex, ey, ez) (simp append_assoc)

-- the header, written in three pieces
pub head_written : (n : ℕ) (o o1 o2 o3 number : List ℕ) → number ≡ decimal n → o1 ≡ o ++ codes "ply\nformat ascii 1.0\nelement vertex " → o2 ≡ o1 ++ number → o3 ≡ o2 ++ codes "\nproperty int x\nproperty int y\nproperty int z\nend_header\n" → o3 ≡ o ++ ply_head n
head_written n o o1 o2 o3 number e e1 e2 e3 = rw (e3, e2, e1, e) (simp append_assoc)

-- after the header and all lines
pub text_written : (list : List Crossing) (o out : List ℕ) (i : ℕ) → length list ≤ i → out ++ flat_map point_line (drop i list) ≡ (o ++ ply_head (length list)) ++ flat_map point_line list → out ≡ o ++ ply_text list
text_written list o out i all e =
    let none : drop i list ≡ [] = drop_all i list all in
    let same : out ≡ (o ++ ply_head (length list)) ++ flat_map point_line list = sym (append-nil out) ∙ (rw none at e) in
    rw same (append_assoc o (ply_head (length list)) (flat_map point_line list))
