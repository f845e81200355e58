-- Lanes of floats: those that are at least others are no NaN.
use Rattle.std.proofs.Common.{◌≡◌, Bool, true, false, cond, List, [], ◌∷◌, refl}
use Rattle.std.specs.Float.{NotNan}
use Rattle.std.proofs.lemmas.Float.{T_from_true, le_right}
use lib.Ieee.{Float, le}
use lib.Lanes.{Each1, sel_l, zip2}

lane : (z x : Float) (b : Bool) → le z x ≡ b → NotNan z → NotNan (cond b x z)
lane z x true e g = le_right z x (T_from_true (le z x) e)
lane z x false e g = g

-- where each lane of zs is no NaN, neither is one that is chosen from xs by that test, or else from zs
pub kept : (zs xs : List Float) → Each1 NotNan zs → Each1 NotNan (sel_l (zip2 le zs xs) xs zs)
kept [] xs g = tt
kept (z ∷ zs) [] g = tt
kept (z ∷ zs) (x ∷ xs) g = (lane z x (le z x) refl g.0, kept zs xs g.1)
