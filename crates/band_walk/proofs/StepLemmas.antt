-- A part of an offset by a product.
use Rattle.std.proofs.Common.{◌≡◌, ℕ, ◌*◌, ◌/◌, ◌≤◌, ◌<◌, ◌∙◌, refl, arith, ap, sym}
use Rattle.std.proofs.Math.Nat.{mul-le-mul_right}
use Rattle.std.specs.Prelude.{ℤ, pos, ◌+ℤ◌, ◌-ℤ◌}
use Rattle.std.proofs.lemmas.Int.{to_z-of_z}
use Rattle.std.proofs.lemmas.Nat.{mul-le}
use mir.Val.{SFits}
use mir.Syntax.{w64}
use Rattle.fixed_geom.specs.Division.{floor_div}
use Rattle.fixed_geom.proofs.Machine.{read}
use Rattle.fixed_geom.proofs.Raised.{raised_floor}
use Rattle.band_walk.proofs.SideLemmas.{below_quotient}

pub offset_small : (m n a : ℕ) → a ≡ n → n ≤ 75504 → m ≤ 1073741824 * n → m * a < 18446744073709551616
offset_small m n a e most le = rw e (plain (m * n) (n * n) (1073741824 * n * n) (mul-le-mul_right n le) (omega arith) (mul-le n n 75504 75504 most most))
  where
    plain : (mn nn big : ℕ) → mn ≤ big → big ≡ 1073741824 * nn → nn ≤ 5700854016 → mn < 18446744073709551616
    plain mn nn big a b c = omega arith

pub share_small : (m n q : ℕ) → 2 ≤ n → m ≤ 1073741824 * n → q ≡ m / n → q ≤ 1073741824
share_small m n q least le e = ended q (m / n) e (below_quotient m n 1073741825 (omega arith) (omega arith))
  where
    ended : (a b : ℕ) → a ≡ b → b < 1073741825 → a ≤ 1073741824
    ended a b e h = omega arith

pub share_read : (offset : ℤ) (n m q : ℕ) (r : ℤ) → SFits w64 offset → SFits w64 r → 2 ≤ n → pos m ≡ read offset +ℤ pos (n * 536870912) → q ≡ m / n → r ≡ pos q -ℤ pos 536870912 → read r ≡ floor_div offset (pos n)
share_read offset n m q r fw fr least is eq er =
    to_z-of_z w64 r fr ∙ er ∙ ap (λ z. pos z -ℤ pos 536870912) eq ∙ sym (raised_floor n 536870912 m offset (omega arith) (is ∙ rw (to_z-of_z w64 offset fw) refl))
