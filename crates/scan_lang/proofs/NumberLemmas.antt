-- The number that digits write, as a decimal without a point.
use Rattle.std.proofs.Common.{◌≡◌, ℕ, suc, ◌+◌, ◌-◌, ◌*◌, ◌^◌, ◌≤◌, ◌<◌, List, [], ◌∷◌, ◌++◌, length, Bool, true, false, eqb, leb, ◌&&◌, None, refl, sym, ap, ◌∙◌, arith}
use Rattle.std.specs.Prelude.{ℤ, pos, ◌*ℤ◌, unsigned_abs, Ok}
use Rattle.std.specs.List.{fold, list_all}
use Rattle.std.specs.Char.{is_ascii_digit}
use Rattle.std.proofs.lemmas.Bool.{and_parts, le-leb, leb-true}
use Rattle.std.proofs.lemmas.Bool.Decides.{nat_tests}
use Rattle.std.proofs.lemmas.Int.{ints}
use Rattle.std.proofs.lemmas.List.{append-nil}
use Rattle.fixed_geom.specs.Decimal.{number_of, signed, with_digit, decimal_of, nearest_of, number_within, value_in, value_of, IsNearest}
use Rattle.fixed_geom.specs.Spelling.{Sign, unsigned, minus, is_minus, sign_bytes, Spelling, spelled, IsProper}
use Rattle.fixed_geom.proofs.Decimals.{digit_more, nearest_is, tens_rise}
use Rattle.fixed_geom.proofs.Spellings.{spelling_read}
use Rattle.scan_lang.specs.Coordinates.{is_short_number, minus_of}

-- k digits and more are below that power of ten
digits_below : (n k : ℕ) (digits : List ℕ) → n < 10 ^ k → list_all is_ascii_digit digits ≡ true → fold with_digit n digits < 10 ^ (k + length digits)
digits_below n k [] low all = let e : k + length {A = ℕ} [] ≡ k = omega arith in rw e low
digits_below n k (d ∷ digits) low all =
    let p = and_parts (is_ascii_digit d) (list_all is_ascii_digit digits) all in
    let small : d - 48 ≤ 9 = grind (arith, nat_tests) in
    let more : fold with_digit (10 * n + (d - 48)) digits < 10 ^ ((k + 1) + length digits) = digits_below (10 * n + (d - 48)) (k + 1) digits (digit_more n k (d - 48) low small) p.1 in
    let e : (k + 1) + length digits ≡ k + suc (length digits) = omega arith in
    rw e at more

-- a whole number is the nearest one to itself
itself : (m q : ℤ) → IsNearest (m *ℤ pos 1) (pos 0) q → q ≡ m
itself m q is = omega (arith, ints, is.below, is.above)

abbrev whole_spelling : Sign → List ℕ → Spelling
whole_spelling s digits = record { sign = s; whole = digits; fraction = None; exponent = None }

size_of : (s : Bool) (n : ℕ) → unsigned_abs (signed s n) ≡ n
size_of true n = omega (arith, ints)
size_of false n = refl

within_size : (m : ℤ) → unsigned_abs m ≤ 10 ^ 18 → number_within m ≡ Ok m
within_size m low = rw (le-leb (unsigned_abs m) (10 ^ 18) low) refl

-- a sign or none and one to five digits
value_spelled : (s : Sign) (digits : List ℕ) → is_short_number digits ≡ true → value_of (pos 1) (sign_bytes s ++ digits) ≡ Ok (signed (is_minus s) (number_of digits))
unfolding value_of
value_spelled s digits short =
    let p = and_parts (leb 1 (length digits)) (leb (length digits) 5 && list_all is_ascii_digit digits) short in
    let q = and_parts (leb (length digits) 5) (list_all is_ascii_digit digits) p.1 in
    let least : 1 ≤ length digits = leb-true _ _ p.0 in
    let most : length digits ≤ 5 = leb-true _ _ q.0 in
    let same : digits ++ [] ≡ digits = append-nil digits in
    let text : spelled (whole_spelling s digits) ≡ sign_bytes s ++ digits = rw (same, same) refl in
    let proper : IsProper (whole_spelling s digits) = record { digits = rw same q.1; least = rw same least; most = rw same (omega arith); exponent = tt } in
    let m : ℤ = signed (is_minus s) (number_of digits) in
    let all : 0 + length digits ≡ length digits = omega arith in
    let low : number_of digits < 10 ^ length digits = rw all at (digits_below 0 0 digits (omega arith) q.1) in
    let rise : 10 ^ length digits ≤ 10 ^ 5 = tens_rise (length digits) 5 most in
    let small : unsigned_abs m ≤ 10 ^ 18 = rw (size_of (is_minus s) (number_of digits)) (omega arith) in
    ap (value_in (pos 1)) (ap decimal_of (sym text) ∙ spelling_read (whole_spelling s digits) proper)
    ∙ ap (λ (ds : List ℕ). number_within (nearest_of (signed (is_minus s) (number_of ds) *ℤ pos 1) (pos 0))) same
    ∙ ap number_within (itself m _ (nearest_is (m *ℤ pos 1) (pos 0))) ∙ within_size m small

short_on : (b : ℕ) (rest : List ℕ) (test : Bool) → eqb b 45 ≡ test → is_short_number (minus_of (b ∷ rest)).1 ≡ true → value_of (pos 1) (b ∷ rest) ≡ Ok (signed (minus_of (b ∷ rest)).0 (number_of (minus_of (b ∷ rest)).1))
short_on b rest true e short = let is : b ≡ 45 = grind (arith, nat_tests) in rw is (value_spelled minus rest (rw is at short))
short_on b rest false e short = rw e (value_spelled unsigned (b ∷ rest) (rw e at short))

-- one to five digits after a minus or none are a decimal of that value
pub short_value : (word : List ℕ) → is_short_number (minus_of word).1 ≡ true → value_of (pos 1) word ≡ Ok (signed (minus_of word).0 (number_of (minus_of word).1))
short_value [] short = absurd cc
short_value (b ∷ rest) short = short_on b rest (eqb b 45) refl short
