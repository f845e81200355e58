-- How decimals are spelled.
use Rattle.std.specs.Prelude.{◌≡◌, ℕ, ◌≤◌, ◌<◌, ◌^◌, Bool, true, false, if◌then◌else◌, List, [], ◌∷◌, ◌++◌, length, ℤ, pos, ◌-ℤ◌, ◌*ℤ◌, unsigned_abs, Option, None, Some, Result, Ok, Err}
use Rattle.std.specs.List.{list_all}
use Rattle.std.specs.Option.{unwrap_or}
use Rattle.std.specs.Char.{is_ascii_digit}
use Rattle.fixed_geom.specs.declared.spelling.Decimal.{Decimal}
use Rattle.fixed_geom.specs.declared.decimal.BadNumber.{BadNumber}
use Rattle.fixed_geom.specs.declared.decimal.BadNumber.TheVariants as bad
use Rattle.fixed_geom.specs.Decimal.{number_of, signed, is_exponent, IsNearest}

-- a sign, or none
pub data Sign : Type 0 where
  unsigned : Sign
  plus : Sign
  minus : Sign

-- its byte
abbrev pub sign_bytes : Sign → List ℕ
sign_bytes unsigned = []
sign_bytes plus = 43 ∷ []
sign_bytes minus = 45 ∷ []

-- whether it makes a number negative
abbrev pub is_minus : Sign → Bool
is_minus unsigned = false
is_minus plus = false
is_minus minus = true

-- e or E, a sign and digits
pub record Exponent : Type 0 where
  pub capital : Bool
  pub sign : Sign
  pub digits : List ℕ

-- a sign, the digits before the point, those after it where there is a point, and an exponent where there is one
pub record Spelling : Type 0 where
  pub sign : Sign
  pub whole : List ℕ
  pub fraction : Option (List ℕ)
  pub exponent : Option Exponent

-- the point and the digits after it, where there is one
abbrev pub fraction_bytes : Option (List ℕ) → List ℕ
fraction_bytes None = []
fraction_bytes (Some digits) = 46 ∷ digits

-- the exponent's text
abbrev pub exponent_bytes : Option Exponent → List ℕ
exponent_bytes None = []
exponent_bytes (Some e) = (if e.capital then 69 else 101) ∷ (sign_bytes e.sign ++ e.digits)

-- the text of a spelling
abbrev pub spelled : Spelling → List ℕ
spelled s = sign_bytes s.sign ++ ((s.whole ++ fraction_bytes s.fraction) ++ exponent_bytes s.exponent)

-- the digits before the point and after it
abbrev pub digits_of : Spelling → List ℕ
digits_of s = s.whole ++ unwrap_or s.fraction []

-- an exponent of one to three digits and at most 3, or none
abbrev pub IsExponentPart : Option Exponent → Type 0
IsExponentPart None = Unit {0}
IsExponentPart (Some e) = is_exponent (is_minus e.sign) e.digits ≡ true

-- 1 to 24 digits, and an exponent of one to three digits and at most 3, or none
pub record IsProper (s : Spelling) : Type 0 where
  pub digits : list_all is_ascii_digit (digits_of s) ≡ true
  pub least : 1 ≤ length (digits_of s)
  pub most : length (digits_of s) ≤ 24
  pub exponent : IsExponentPart s.exponent

-- its value, 0 where there is none
abbrev pub exponent_value : Option Exponent → ℤ
exponent_value None = pos 0
exponent_value (Some e) = signed (is_minus e.sign) (number_of e.digits)

-- the decimal that is spelled: a mantissa times a power of ten
abbrev pub decimal_spelled : Spelling → Decimal
decimal_spelled s = record { mantissa = signed (is_minus s.sign) (number_of (digits_of s)); power = exponent_value s.exponent -ℤ pos (length (unwrap_or s.fraction [])) }

-- ---- the whole number of a text at a scale

-- the text is spelled properly, and P holds of the whole number nearest to what is spelled, times the scale
pub record Gives (text : List ℕ) (scale : ℤ) (P : ℤ → Type 0) : Type 0 where
  pub spelling : Spelling
  pub proper : IsProper spelling
  pub is : spelled spelling ≡ text
  pub number : ℤ
  pub nearest : IsNearest ((decimal_spelled spelling).mantissa *ℤ scale) (decimal_spelled spelling).power number
  pub holds : P number

-- no proper spelling is the text; the number passes 10^18 in size; or it is the answer
abbrev pub IsAnswer : List ℕ → ℤ → Result ℤ BadNumber → Type 0
IsAnswer text scale (Err bad.Grammar) = (s : Spelling) → IsProper s → spelled s ≡ text → ⊥
IsAnswer text scale (Err bad.Range) = Gives text scale (λ q. 10 ^ 18 < unsigned_abs q)
IsAnswer text scale (Ok n) = Gives text scale (λ q. (n ≡ q) × (unsigned_abs q ≤ 10 ^ 18))
