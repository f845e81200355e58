-- A block's coordinate, as a word writes it.
use Rattle.std.specs.Prelude.{ℕ, ◌==◌, nat_le, ◌&&◌, Bool, true, false, if◌then◌else◌, List, [], ◌∷◌, length, ℤ, pos, neg_ℤ, Option, None, Some}
use Rattle.std.specs.List.{list_all}
use Rattle.std.specs.Char.{is_ascii_digit}
use Rattle.fixed_geom.specs.Decimal.{number_of, signed}
use Rattle.camera.specs.Cameras.{within}

-- whether a minus stands first, and the bytes after it where there is one
abbrev pub minus_of : List ℕ → Bool × List ℕ
minus_of [] = (false, [])
minus_of (b ∷ rest) = if b == 45 then (true, rest) else (false, b ∷ rest)

-- one to five digits
abbrev pub is_short_number : List ℕ → Bool
is_short_number digits = nat_le 1 (length digits) && (nat_le (length digits) 5 && list_all is_ascii_digit digits)

-- a number, where it has 16 bits with its sign
abbrev pub within_16_bits : ℤ → Option ℤ
within_16_bits z = if within (neg_ℤ (pos 32768)) (pos 32767) z then Some z else None

-- by whether a minus stands first, and the digits
abbrev pub coordinate_with : Bool → List ℕ → Option ℤ
coordinate_with negative digits = if is_short_number digits then within_16_bits (signed negative (number_of digits)) else None

-- the coordinate that a word writes: a minus or none, and one to five digits, with a value of 16 bits
unfoldable pub coordinate_of : List ℕ → Option ℤ
coordinate_of word = coordinate_with (minus_of word).0 (minus_of word).1
