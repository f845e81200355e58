-- Decimals: which texts are decimals, and their whole numbers.
use Rattle.std.specs.Prelude.{ℕ, ◌+◌, ◌-◌, ◌*◌, ◌^◌, ◌==◌, suc, nat_lt, nat_le, ◌&&◌, ◌||◌, Bool, true, false, if◌then◌else◌, List, [], ◌∷◌, ◌++◌, length, ℤ, pos, negsuc, neg_ℤ, ◌+ℤ◌, ◌-ℤ◌, ◌*ℤ◌, int_le, unsigned_abs, Option, None, Some, Result, Ok, Err}
use Rattle.std.specs.List.{fold, list_all, before_first, after_first, position_or_len}
use Rattle.std.specs.Option.{option_map, option_and_then, unwrap_or}
use Rattle.std.specs.Char.{is_ascii_digit}
use Rattle.fixed_geom.specs.Division.{IsFloor, round_div}
use Rattle.fixed_geom.specs.declared.decimal.BadNumber.{BadNumber}
use Rattle.fixed_geom.specs.declared.decimal.BadNumber.TheVariants as bad
use Rattle.fixed_geom.specs.declared.spelling.Decimal.{Decimal}
use Rattle.fixed_geom.specs.declared.spelling.Mantissa.{Mantissa}

-- ---- digits and signs

-- the digits of n and then the digit of byte b
abbrev pub with_digit : ℕ → ℕ → ℕ
with_digit n b = 10 * n + (b - 48)

-- the digits as one number
abbrev pub number_of : List ℕ → ℕ
number_of digits = fold with_digit 0 digits

-- the number of the digits of n and those of the text after them, if they are digits
abbrev pub digits_onto : ℕ → List ℕ → Option ℕ
digits_onto n text = if list_all is_ascii_digit text then Some (fold with_digit n text) else None

-- n, or minus n
abbrev pub signed : Bool → ℕ → ℤ
signed negative n = if negative then neg_ℤ (pos n) else pos n

-- whether a minus stands first, and the bytes after the sign where there is one
abbrev pub sign_of : List ℕ → Bool × List ℕ
sign_of [] = (false, [])
sign_of (b ∷ rest) = if b == 45 then (true, rest) else if b == 43 then (false, rest) else (false, b ∷ rest)

-- ---- the parts of a text

-- whether b is one of two marks
abbrev pub is_mark : ℕ → ℕ → ℕ → Bool
is_mark mark other b = b == mark || b == other

-- the bytes before the first of two marks, and those after it where there is one
abbrev pub parts_of : ℕ → ℕ → List ℕ → List ℕ × Option (List ℕ)
parts_of mark other text =
    (before_first (is_mark mark other) text, if nat_lt (position_or_len (is_mark mark other) text) (length text) then Some (after_first (is_mark mark other) text) else None)

-- ---- a mantissa: digits with at most one point, 1 to 24 digits

-- by the digits before the point and those after it
abbrev pub mantissa_with : List ℕ → List ℕ → Option Mantissa
mantissa_with whole fraction =
    if nat_le 1 (length (whole ++ fraction)) && (nat_le (length (whole ++ fraction)) 24 && list_all is_ascii_digit (whole ++ fraction))
    then Some (record { number = number_of (whole ++ fraction); places = length fraction })
    else None

-- the mantissa of a text
unfoldable pub mantissa_of : List ℕ → Option Mantissa
mantissa_of text = mantissa_with (parts_of 46 46 text).0 (unwrap_or (parts_of 46 46 text).1 [])

-- ---- an exponent: a sign or none, and one to three digits, with a value of at most 3

-- whether digits, with a minus or not, make an exponent
abbrev pub is_exponent : Bool → List ℕ → Bool
is_exponent negative digits = nat_le 1 (length digits) && (nat_le (length digits) 3 && (list_all is_ascii_digit digits && int_le (signed negative (number_of digits)) (pos 3)))

-- by whether a minus stands first, and the digits
abbrev pub exponent_with : Bool → List ℕ → Option ℤ
exponent_with negative digits = if is_exponent negative digits then Some (signed negative (number_of digits)) else None

-- by the text after the mark of an exponent, where there is one
unfoldable pub exponent_of : Option (List ℕ) → Option ℤ
exponent_of None = Some (pos 0)
exponent_of (Some text) = exponent_with (sign_of text).0 (sign_of text).1

-- ---- a decimal: a sign or none, a mantissa, and an exponent or none

-- the mantissa with its sign, times the power of ten that the exponent and the point give
abbrev pub decimal_with : Bool → ℤ → Mantissa → Decimal
decimal_with negative exponent m = record { mantissa = signed negative m.number; power = exponent -ℤ pos m.places }

-- by whether a minus stands first, and the parts after the sign
abbrev pub decimal_behind : Bool → List ℕ × Option (List ℕ) → Option Decimal
decimal_behind negative parts =
    option_and_then (λ e. option_map (decimal_with negative e) (mantissa_of parts.0)) (exponent_of parts.1)

-- the decimal of a text, if it is one
unfoldable pub decimal_of : List ℕ → Option Decimal
decimal_of text = decimal_behind (sign_of text).0 (parts_of 101 69 (sign_of text).1)

-- ---- the whole number that is asked for

-- a power of ten is a quotient of two numbers, one of which is 1: the upper one
abbrev pub tens_above : ℤ → ℕ
tens_above (pos n) = 10 ^ n
tens_above (negsuc n) = 1

-- the lower one
abbrev pub tens_below : ℤ → ℕ
tens_below (pos n) = 1
tens_below (negsuc n) = 10 ^ (suc n)

-- the whole number nearest to a times that power of ten, the greater one of two
abbrev pub nearest_of : ℤ → ℤ → ℤ
nearest_of a power = round_div (a *ℤ pos (tens_above power)) (pos (tens_below power))

-- a number that does not pass 10^18 in size
abbrev pub number_within : ℤ → Result ℤ BadNumber
number_within q = if nat_le (unsigned_abs q) (10 ^ 18) then Ok q else Err bad.Range

-- the number of a decimal times the scale, if there is a decimal
abbrev pub value_in : ℤ → Option Decimal → Result ℤ BadNumber
value_in scale None = Err bad.Grammar
value_in scale (Some d) = number_within (nearest_of (d.mantissa *ℤ scale) d.power)

-- the whole number of a text at a scale
unfoldable pub value_of : ℤ → List ℕ → Result ℤ BadNumber
value_of scale text = value_in scale (decimal_of text)

-- ---- the same, said by inequalities

-- q is the greatest whole number that is not above a times that power of ten plus one half
abbrev pub IsNearest : ℤ → ℤ → ℤ → Type 0
IsNearest a power q = IsFloor (pos 2 *ℤ (a *ℤ pos (tens_above power)) +ℤ pos (tens_below power)) (pos 2 *ℤ pos (tens_below power)) q
