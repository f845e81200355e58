-- The bytes of replies.
use Rattle.std.proofs.Common.{◌≡◌, ℕ, List, [], ◌∷◌, ◌++◌, append_assoc}
use Rattle.std.specs.Prelude.{ℤ, pos}
use Rattle.std.specs.Fmt.{signed_decimal}
use Rattle.scan_lang.specs.declared.reply.KnownVoxel.{KnownVoxel}
use Rattle.scan_lang.specs.Replies.{voxel_line}

-- the numbers of a voxel, written one after the other, are its line
pub line_written : (v : KnownVoxel) (o o1 o2 o3 o4 o5 : List ℕ) (x y z f w : ℤ) → x ≡ v.x → y ≡ v.y → z ≡ v.z → f ≡ v.f → w ≡ pos v.w
    → o1 ≡ (o ++ signed_decimal x) ++ 32 ∷ [] → o2 ≡ (o1 ++ signed_decimal y) ++ 32 ∷ [] → o3 ≡ (o2 ++ signed_decimal z) ++ 32 ∷ [] → o4 ≡ (o3 ++ signed_decimal f) ++ 32 ∷ [] → o5 ≡ (o4 ++ signed_decimal w) ++ 10 ∷ []
    → o5 ≡ o ++ voxel_line v
line_written v o o1 o2 o3 o4 o5 x y z f w ex ey ez ef ew e1 e2 e3 e4 e5 = rw (e5, e4, e3, e2, e1, ex, ey, ez, ef, ew) (simp append_assoc)
