-- Every proper spelling is a decimal, and every decimal is spelled properly.
use Rattle.std.proofs.Common.{◌≡◌, ℕ, ◌+◌, ◌≤◌, ◌<◌, ◌^◌, subst, arith, refl, sym, ap, ◌∙◌, List, [], ◌∷◌, ◌++◌, length, take, drop, get_or, Bool, true, false, not, ◌&&◌, ◌||◌, Option, None, Some, leb, ltb, eqb, cond, append_assoc, length-append}
use Rattle.std.specs.Prelude.{ℤ, pos, ◌-ℤ◌, ◌*ℤ◌, int_le, unsigned_abs, Result, Ok, Err}
use Rattle.std.specs.List.{list_all, position_or_len, before_first, after_first}
use Rattle.std.specs.Option.{unwrap_or, option_and_then, option_map}
use Rattle.std.specs.Char.{is_ascii_digit}
use Rattle.std.proofs.lemmas.Bool.{lt-ltb, le-ltb, le-leb, leb-true, leb-false, ltb-true, ltb-false, and_parts, and_from, or_parts, not-true}
use Rattle.std.proofs.lemmas.Bool.Decides.{nat_tests}
use Rattle.std.proofs.lemmas.List.{take_at, drop_at, take_all, append-nil}
use Rattle.std.proofs.lemmas.List.Folds.{list_all-append}
use Rattle.std.proofs.lemmas.List.Sums.{passes_at_first, split_at_first}
use Rattle.fixed_geom.proofs.Decimals.{nearest_is}
use Rattle.fixed_geom.specs.declared.decimal.BadNumber.{BadNumber}
use Rattle.fixed_geom.specs.declared.decimal.BadNumber.TheVariants as bad
use Rattle.fixed_geom.specs.declared.spelling.Decimal.{Decimal}
use Rattle.fixed_geom.specs.declared.spelling.Mantissa.{Mantissa}
use Rattle.fixed_geom.specs.Decimal.{number_of, signed, sign_of, is_mark, parts_of, mantissa_with, mantissa_of, exponent_of, is_exponent, decimal_with, decimal_behind, decimal_of, nearest_of, value_in, value_of, IsNearest}
use Rattle.fixed_geom.specs.Spelling.{Sign, unsigned, plus, minus, sign_bytes, is_minus, Exponent, Spelling, fraction_bytes, exponent_bytes, spelled, IsExponentPart, IsProper, exponent_value, decimal_spelled, IsAnswer}

-- ---- the parts around a first mark

-- no mark
pub record Unmarked (a b : ℕ) (front : List ℕ) : Type 0 where
  pub none : list_all (λ x. not (is_mark a b x)) front ≡ true

at_mark : (a b m : ℕ) (front behind : List ℕ) → Unmarked a b front → is_mark a b m ≡ true → position_or_len (is_mark a b) (front ++ m ∷ behind) ≡ length front
at_mark a b m [] behind u is = rw is refl
at_mark a b m (x ∷ front) behind u is =
    let p = and_parts (not (is_mark a b x)) (list_all (λ x. not (is_mark a b x)) front) u.none in
    rw (p.0, at_mark a b m front behind (record { none = p.1 }) is) (omega arith)

at_none : (a b : ℕ) (front : List ℕ) → Unmarked a b front → position_or_len (is_mark a b) front ≡ length front
at_none a b [] u = refl
at_none a b (x ∷ front) u =
    let p = and_parts (not (is_mark a b x)) (list_all (λ x. not (is_mark a b x)) front) u.none in
    rw (p.0, at_none a b front (record { none = p.1 })) (omega arith)

pub parts_mark : (a b m : ℕ) (front behind : List ℕ) → Unmarked a b front → is_mark a b m ≡ true → parts_of a b (front ++ m ∷ behind) ≡ (front, Some behind)
parts_mark a b m front behind u is =
    let at : position_or_len (is_mark a b) (front ++ m ∷ behind) ≡ length front = at_mark a b m front behind u is in
    let test : ltb (length front) (length (front ++ m ∷ behind)) ≡ true = lt-ltb _ _ (simp length-append (omega arith)) in
    let first : take (length front) (front ++ m ∷ behind) ≡ front = take_at front (m ∷ behind) (length front) refl in
    let split : front ++ m ∷ behind ≡ (front ++ m ∷ []) ++ behind = rw append_assoc refl in
    let last : drop (length front + 1) (front ++ m ∷ behind) ≡ behind = rw split (drop_at (front ++ m ∷ []) behind (length front + 1) (simp length-append (omega arith))) in
    rw (at, test, first, last) refl

pub parts_none : (a b : ℕ) (front : List ℕ) → Unmarked a b front → parts_of a b front ≡ (front, None)
parts_none a b front u =
    let at : position_or_len (is_mark a b) front ≡ length front = at_none a b front u in
    let test : ltb (length front) (length front) ≡ false = le-ltb (length front) (length front) (omega arith) in
    let first : take (length front) front ≡ front = take_all (length front) front (omega arith) in
    rw (at, test, first) refl

-- ---- digits are no marks and no signs

digit_no_point : (d : ℕ) → is_ascii_digit d ≡ true → not (is_mark 46 46 d) ≡ true
digit_no_point d h = grind (arith, nat_tests)

digit_no_mark : (d : ℕ) → is_ascii_digit d ≡ true → not (is_mark 101 69 d) ≡ true
digit_no_mark d h = grind (arith, nat_tests)

digits_no_point : (ds : List ℕ) → list_all is_ascii_digit ds ≡ true → Unmarked 46 46 ds
digits_no_point [] h = record { none = refl }
digits_no_point (d ∷ ds) h =
    let p = and_parts (is_ascii_digit d) (list_all is_ascii_digit ds) h in
    record { none = and_from _ _ (digit_no_point d p.0) (digits_no_point ds p.1).none }

digits_no_mark : (ds : List ℕ) → list_all is_ascii_digit ds ≡ true → Unmarked 101 69 ds
digits_no_mark [] h = record { none = refl }
digits_no_mark (d ∷ ds) h =
    let p = and_parts (is_ascii_digit d) (list_all is_ascii_digit ds) h in
    record { none = and_from _ _ (digit_no_mark d p.0) (digits_no_mark ds p.1).none }

front_no_mark : (whole : List ℕ) (fraction : Option (List ℕ)) → list_all is_ascii_digit (whole ++ unwrap_or fraction []) ≡ true → Unmarked 101 69 (whole ++ fraction_bytes fraction)
front_no_mark whole None h = digits_no_mark (whole ++ []) h
front_no_mark whole (Some ds) h =
    let p = and_parts (list_all is_ascii_digit whole) (list_all is_ascii_digit ds) (sym (list_all-append is_ascii_digit whole ds) ∙ h) in
    record { none = list_all-append _ whole (46 ∷ ds) ∙ and_from _ _ (digits_no_mark whole p.0).none (digits_no_mark ds p.1).none }

-- what stands behind a sign
abbrev begins_plain : List ℕ → Bool
begins_plain [] = true
begins_plain (b ∷ rest) = not (eqb b 45 || eqb b 43)

sign_read : (s : Sign) (text : List ℕ) → begins_plain text ≡ true → sign_of (sign_bytes s ++ text) ≡ (is_minus s, text)
sign_read plus text h = refl
sign_read minus text h = refl
sign_read unsigned [] h = refl
sign_read unsigned (b ∷ rest) h =
    let p = or_parts (eqb b 45) (eqb b 43) (not-true (eqb b 45 || eqb b 43) h) in
    rw (p.0, p.1) refl

digit_plain : (d : ℕ) → is_ascii_digit d ≡ true → not (eqb d 45 || eqb d 43) ≡ true
digit_plain d h = grind (arith, nat_tests)

body_plain : (whole : List ℕ) (fraction : Option (List ℕ)) (tail : List ℕ) → list_all is_ascii_digit (whole ++ unwrap_or fraction []) ≡ true → 1 ≤ length (whole ++ unwrap_or fraction []) → begins_plain ((whole ++ fraction_bytes fraction) ++ tail) ≡ true
body_plain [] None tail h some = absurd (omega arith)
body_plain [] (Some ds) tail h some = refl
body_plain (d ∷ ds) fraction tail h some = digit_plain d (and_parts (is_ascii_digit d) (list_all is_ascii_digit (ds ++ unwrap_or fraction [])) h).0

digits_plain : (ds : List ℕ) → list_all is_ascii_digit ds ≡ true → 1 ≤ length ds → begins_plain ds ≡ true
digits_plain [] h some = refl
digits_plain (d ∷ ds) h some = digit_plain d (and_parts (is_ascii_digit d) (list_all is_ascii_digit ds) h).0

-- ---- a proper spelling is a decimal

point_parts : (whole : List ℕ) (fraction : Option (List ℕ)) → list_all is_ascii_digit whole ≡ true → parts_of 46 46 (whole ++ fraction_bytes fraction) ≡ (whole, fraction)
point_parts whole None h = ap (parts_of 46 46) (append-nil whole) ∙ parts_none 46 46 whole (digits_no_point whole h)
point_parts whole (Some ds) h = parts_mark 46 46 46 whole ds (digits_no_point whole h) refl

mantissa_read : (whole : List ℕ) (fraction : Option (List ℕ)) → list_all is_ascii_digit (whole ++ unwrap_or fraction []) ≡ true → 1 ≤ length (whole ++ unwrap_or fraction []) → length (whole ++ unwrap_or fraction []) ≤ 24
    → mantissa_of (whole ++ fraction_bytes fraction) ≡ Some (record { number = number_of (whole ++ unwrap_or fraction []); places = length (unwrap_or fraction []) })
unfolding mantissa_of
mantissa_read whole fraction h some few =
    let p = and_parts (list_all is_ascii_digit whole) (list_all is_ascii_digit (unwrap_or fraction [])) (sym (list_all-append is_ascii_digit whole (unwrap_or fraction [])) ∙ h) in
    let parts = point_parts whole fraction p.0 in
    let e : leb 1 (length (whole ++ unwrap_or fraction [])) ≡ true = le-leb 1 _ some in
    let f : leb (length (whole ++ unwrap_or fraction [])) 24 ≡ true = le-leb _ 24 few in
    ap (λ (q : List ℕ × Option (List ℕ)). mantissa_with q.0 (unwrap_or q.1 [])) parts ∙ rw (e, f, h) refl

exponent_read : (e : Exponent) → IsExponentPart (Some e) → exponent_of (Some (sign_bytes e.sign ++ e.digits)) ≡ Some (signed (is_minus e.sign) (number_of e.digits))
unfolding exponent_of
exponent_read e h =
    let ds = e.digits in
    let range = int_le (signed (is_minus e.sign) (number_of ds)) (pos 3) in
    let p = and_parts (leb 1 (length ds)) (leb (length ds) 3 && (list_all is_ascii_digit ds && range)) h in
    let q = and_parts (leb (length ds) 3) (list_all is_ascii_digit ds && range) p.1 in
    let digits = (and_parts (list_all is_ascii_digit ds) range q.1).0 in
    rw (sign_read e.sign ds (digits_plain ds digits (leb-true _ _ p.0)), h) refl

mark_is : (capital : Bool) → is_mark 101 69 (cond capital 69 101) ≡ true
mark_is true = refl
mark_is false = refl

abbrev exponent_tail : Option Exponent → Option (List ℕ)
exponent_tail None = None
exponent_tail (Some e) = Some (sign_bytes e.sign ++ e.digits)

mark_parts : (front : List ℕ) (x : Option Exponent) → Unmarked 101 69 front → parts_of 101 69 (front ++ exponent_bytes x) ≡ (front, exponent_tail x)
mark_parts front None u = ap (parts_of 101 69) (append-nil front) ∙ parts_none 101 69 front u
mark_parts front (Some e) u = parts_mark 101 69 (cond e.capital 69 101) front (sign_bytes e.sign ++ e.digits) u (mark_is e.capital)

tail_read : (x : Option Exponent) → IsExponentPart x → exponent_of (exponent_tail x) ≡ Some (exponent_value x)
unfolding exponent_of
tail_read None h = refl
tail_read (Some e) h = exponent_read e h

pub spelling_read : (s : Spelling) → IsProper s → decimal_of (spelled s) ≡ Some (decimal_spelled s)
unfolding decimal_of
spelling_read s h =
    let sign = sign_read s.sign ((s.whole ++ fraction_bytes s.fraction) ++ exponent_bytes s.exponent) (body_plain s.whole s.fraction (exponent_bytes s.exponent) h.digits h.least) in
    let parts = mark_parts (s.whole ++ fraction_bytes s.fraction) s.exponent (front_no_mark s.whole s.fraction h.digits) in
    let e = tail_read s.exponent h.exponent in
    let m = mantissa_read s.whole s.fraction h.digits h.least h.most in
    ap (λ (q : Bool × List ℕ). decimal_behind q.0 (parts_of 101 69 q.1)) sign ∙ ap (decimal_behind (is_minus s.sign)) parts ∙ rw (e, m) refl

-- ---- a decimal is spelled properly

record Signed (text : List ℕ) : Type 0 where
  sign : Sign
  is : text ≡ sign_bytes sign ++ (sign_of text).1
  negative : is_minus sign ≡ (sign_of text).0

signed_by : (b : ℕ) (rest : List ℕ) (t u : Bool) → eqb b 45 ≡ t → eqb b 43 ≡ u → Signed (b ∷ rest)
signed_by b rest true u p q = let e : b ≡ 45 = grind (arith, nat_tests) in record { sign = minus; is = rw e refl; negative = rw p refl }
signed_by b rest false true p q = let e : b ≡ 43 = grind (arith, nat_tests) in record { sign = plus; is = rw e refl; negative = rw (p, q) refl }
signed_by b rest false false p q = record { sign = unsigned; is = rw (p, q) refl; negative = rw (p, q) refl }

signed_text : (text : List ℕ) → Signed text
signed_text [] = record { sign = unsigned; is = refl; negative = refl }
signed_text (b ∷ rest) = signed_by b rest (eqb b 45) (eqb b 43) refl refl

-- how a text is put together from those parts
abbrev Around : ℕ → ℕ → List ℕ → List ℕ × Option (List ℕ) → Type 0
Around a b text (front, None) = text ≡ front
Around a b text (front, Some behind) = (m : ℕ) × (is_mark a b m ≡ true) × (text ≡ front ++ m ∷ behind)

around_by : (a b : ℕ) (text : List ℕ) (t : Bool) → ltb (position_or_len (is_mark a b) text) (length text) ≡ t → Around a b text (before_first (is_mark a b) text, cond t (Some (after_first (is_mark a b) text)) None)
around_by a b text true test =
    let inside : position_or_len (is_mark a b) text < length text = ltb-true _ _ test in
    (get_or text (position_or_len (is_mark a b) text) 0, passes_at_first (is_mark a b) text 0 inside, split_at_first (is_mark a b) text 0 inside)
around_by a b text false test =
    sym (take_all (position_or_len (is_mark a b) text) text (ltb-false _ _ test))

around : (a b : ℕ) (text : List ℕ) → Around a b text (parts_of a b text)
around a b text = around_by a b text (ltb (position_or_len (is_mark a b) text) (length text)) refl

cond_some : {A : Type 0} (t : Bool) (x k : A) → cond t (Some x) None ≡ Some k → (t ≡ true) × (x ≡ k)
cond_some true x k h = (refl, cc)
cond_some false x k h = absurd cc

and_then_some : {A B : Type 0} (f : A → Option B) (o : Option A) (k : B) → option_and_then f o ≡ Some k → (x : A) × (o ≡ Some x) × (f x ≡ Some k)
and_then_some f None k h = absurd cc
and_then_some f (Some x) k h = (x, refl, h)

map_some : {A B : Type 0} (f : A → B) (o : Option A) (k : B) → option_map f o ≡ Some k → (x : A) × (o ≡ Some x) × (f x ≡ k)
map_some f None k h = absurd cc
map_some f (Some x) k h = (x, refl, cc)

record MantissaSpelled (text : List ℕ) (k : Mantissa) : Type 0 where
  whole : List ℕ
  fraction : Option (List ℕ)
  is : text ≡ whole ++ fraction_bytes fraction
  digits : list_all is_ascii_digit (whole ++ unwrap_or fraction []) ≡ true
  least : 1 ≤ length (whole ++ unwrap_or fraction [])
  most : length (whole ++ unwrap_or fraction []) ≤ 24
  value : record { number = number_of (whole ++ unwrap_or fraction []); places = length (unwrap_or fraction []) } ≡ k

mantissa_found : (text whole : List ℕ) (fraction : Option (List ℕ)) (k : Mantissa) → text ≡ whole ++ fraction_bytes fraction → mantissa_with whole (unwrap_or fraction []) ≡ Some k → MantissaSpelled text k
mantissa_found text whole fraction k is h =
    let p = cond_some _ _ k h in
    let q = and_parts (leb 1 (length (whole ++ unwrap_or fraction []))) (leb (length (whole ++ unwrap_or fraction [])) 24 && list_all is_ascii_digit (whole ++ unwrap_or fraction [])) p.0 in
    let r = and_parts (leb (length (whole ++ unwrap_or fraction [])) 24) (list_all is_ascii_digit (whole ++ unwrap_or fraction [])) q.1 in
    record { whole = whole; fraction = fraction; is = is; digits = r.1; least = leb-true _ _ q.0; most = leb-true _ _ r.0; value = p.1 }

mantissa_from : (text : List ℕ) (p : List ℕ × Option (List ℕ)) (k : Mantissa) → Around 46 46 text p → mantissa_with p.0 (unwrap_or p.1 []) ≡ Some k → MantissaSpelled text k
mantissa_from text (front, None) k around h = mantissa_found text front None k (around ∙ sym (append-nil front)) h
mantissa_from text (front, Some behind) k around h =
    let m : around.0 ≡ 46 = grind (arith, nat_tests, around.1) in
    mantissa_found text front (Some behind) k (around.2 ∙ ap (λ (x : ℕ). front ++ x ∷ behind) m) h

mantissa_spelled : (text : List ℕ) (k : Mantissa) → mantissa_of text ≡ Some k → MantissaSpelled text k
unfolding mantissa_of
mantissa_spelled text k h = mantissa_from text (parts_of 46 46 text) k (around 46 46 text) h

record ExponentSpelled (capital : Bool) (text : List ℕ) (e : ℤ) : Type 0 where
  part : Exponent
  same : part.capital ≡ capital
  is : text ≡ sign_bytes part.sign ++ part.digits
  proper : IsExponentPart (Some part)
  value : signed (is_minus part.sign) (number_of part.digits) ≡ e

exponent_spelled : (capital : Bool) (text : List ℕ) (e : ℤ) → exponent_of (Some text) ≡ Some e → ExponentSpelled capital text e
unfolding exponent_of
exponent_spelled capital text e h =
    let s = signed_text text in
    let ds = (sign_of text).1 in
    let p = cond_some _ _ e h in
    record {
      part = record { capital = capital; sign = s.sign; digits = ds };
      same = refl;
      is = s.is;
      proper = ap (λ (n : Bool). is_exponent n ds) s.negative ∙ p.0;
      value = ap (λ (n : Bool). signed n (number_of ds)) s.negative ∙ p.1;
    }

mark_by : (m : ℕ) (t : Bool) → eqb m 69 ≡ t → is_mark 101 69 m ≡ true → (capital : Bool) × (m ≡ cond capital 69 101)
mark_by m true test is = (true, grind (arith, nat_tests))
mark_by m false test is = (false, grind (arith, nat_tests))

record BodySpelled (negative : Bool) (text : List ℕ) (d : Decimal) : Type 0 where
  whole : List ℕ
  fraction : Option (List ℕ)
  exponent : Option Exponent
  is : text ≡ (whole ++ fraction_bytes fraction) ++ exponent_bytes exponent
  digits : list_all is_ascii_digit (whole ++ unwrap_or fraction []) ≡ true
  least : 1 ≤ length (whole ++ unwrap_or fraction [])
  most : length (whole ++ unwrap_or fraction []) ≤ 24
  proper : IsExponentPart exponent
  value : record { mantissa = signed negative (number_of (whole ++ unwrap_or fraction [])); power = exponent_value exponent -ℤ pos (length (unwrap_or fraction [])) } ≡ d

body_by : (negative : Bool) (text front : List ℕ) (x : Option Exponent) (e : ℤ) (k : Mantissa) (d : Decimal) → text ≡ front ++ exponent_bytes x → IsExponentPart x → exponent_value x ≡ e → MantissaSpelled front k → decimal_with negative e k ≡ d → BodySpelled negative text d
body_by negative text front x e k d is proper value m h = record {
  whole = m.whole;
  fraction = m.fraction;
  exponent = x;
  is = is ∙ ap (λ (l : List ℕ). l ++ exponent_bytes x) m.is;
  digits = m.digits;
  least = m.least;
  most = m.most;
  proper = proper;
  value = ap (λ (z : ℤ). record { mantissa = signed negative (number_of (m.whole ++ unwrap_or m.fraction [])); power = z -ℤ pos (length (unwrap_or m.fraction [])) }) value ∙ ap (decimal_with negative e) m.value ∙ h;
}

some_is : {A : Type 0} {x y : A} → Some x ≡ Some y → x ≡ y
some_is h = cc

body_from : (negative : Bool) (text : List ℕ) (p : List ℕ × Option (List ℕ)) (d : Decimal) → Around 101 69 text p → decimal_behind negative p ≡ Some d → BodySpelled negative text d
unfolding exponent_of
body_from negative text (front, None) d around h =
    let a = map_some (decimal_with negative (pos 0)) (mantissa_of front) d h in
    body_by negative text front None (pos 0) a.0 d (around ∙ sym (append-nil front)) tt refl (mantissa_spelled front a.0 a.1) a.2
body_from negative text (front, Some behind) d around h =
    let o = and_then_some (λ e. option_map (decimal_with negative e) (mantissa_of front)) (exponent_of (Some behind)) d h in
    let a = map_some (decimal_with negative o.0) (mantissa_of front) d o.2 in
    let c = mark_by around.0 (eqb around.0 69) refl around.1 in
    let x = exponent_spelled c.0 behind o.0 o.1 in
    let bytes : exponent_bytes (Some x.part) ≡ around.0 ∷ behind = ap (λ (k : Bool). cond k 69 101 ∷ (sign_bytes x.part.sign ++ x.part.digits)) x.same ∙ ap (λ (m : ℕ). m ∷ (sign_bytes x.part.sign ++ x.part.digits)) (sym c.1) ∙ ap (λ (l : List ℕ). around.0 ∷ l) (sym x.is) in
    body_by negative text front (Some x.part) o.0 a.0 d (around.2 ∙ ap (λ (l : List ℕ). front ++ l) (sym bytes)) x.proper x.value (mantissa_spelled front a.0 a.1) a.2

pub record Spelled (text : List ℕ) (d : Decimal) : Type 0 where
  pub spelling : Spelling
  pub proper : IsProper spelling
  pub is : spelled spelling ≡ text
  pub value : decimal_spelled spelling ≡ d

pub decimal_found : (text : List ℕ) (d : Decimal) → decimal_of text ≡ Some d → Spelled text d
unfolding decimal_of
decimal_found text d h =
    let s = signed_text text in
    let b = body_from (sign_of text).0 (sign_of text).1 (parts_of 101 69 (sign_of text).1) d (around 101 69 (sign_of text).1) h in
    record {
      spelling = record { sign = s.sign; whole = b.whole; fraction = b.fraction; exponent = b.exponent };
      proper = record { digits = b.digits; least = b.least; most = b.most; exponent = b.proper };
      is = sym (s.is ∙ ap (λ (l : List ℕ). sign_bytes s.sign ++ l) b.is);
      value = ap (λ (n : Bool). record { mantissa = signed n (number_of (b.whole ++ unwrap_or b.fraction [])); power = exponent_value b.exponent -ℤ pos (length (unwrap_or b.fraction [])) }) s.negative ∙ b.value;
    }

-- ---- the answer

answer_within : (text : List ℕ) (scale : ℤ) (d : Decimal) (t : Bool) (r : Result ℤ BadNumber) → Spelled text d → leb (unsigned_abs (nearest_of (d.mantissa *ℤ scale) d.power)) (10 ^ 18) ≡ t
    → r ≡ cond t (Ok (nearest_of (d.mantissa *ℤ scale) d.power)) (Err bad.Range) → IsAnswer text scale r
answer_within text scale d true r f test is = rw is (record {
  spelling = f.spelling;
  proper = f.proper;
  is = f.is;
  number = nearest_of (d.mantissa *ℤ scale) d.power;
  nearest = subst (λ (x : Decimal). IsNearest (x.mantissa *ℤ scale) x.power (nearest_of (d.mantissa *ℤ scale) d.power)) (sym f.value) (nearest_is (d.mantissa *ℤ scale) d.power);
  holds = (refl, leb-true _ _ test);
})
answer_within text scale d false r f test is = rw is (record {
  spelling = f.spelling;
  proper = f.proper;
  is = f.is;
  number = nearest_of (d.mantissa *ℤ scale) d.power;
  nearest = subst (λ (x : Decimal). IsNearest (x.mantissa *ℤ scale) x.power (nearest_of (d.mantissa *ℤ scale) d.power)) (sym f.value) (nearest_is (d.mantissa *ℤ scale) d.power);
  holds = leb-false _ _ test;
})

none_some : {A : Type 0} (o : Option A) (x : A) → o ≡ None → o ≡ Some x → ⊥
none_some o x h k = absurd cc

answer_by : (text : List ℕ) (scale : ℤ) (o : Option Decimal) (r : Result ℤ BadNumber) → decimal_of text ≡ o → r ≡ value_in scale o → IsAnswer text scale r
answer_by text scale None r found is = rw is (λ s proper same. none_some (decimal_of text) (decimal_spelled s) found (ap decimal_of (sym same) ∙ spelling_read s proper))
answer_by text scale (Some d) r found is = answer_within text scale d (leb (unsigned_abs (nearest_of (d.mantissa *ℤ scale) d.power)) (10 ^ 18)) r (decimal_found text d found) refl is

pub answer_is : (text : List ℕ) (scale : ℤ) (r : Result ℤ BadNumber) → r ≡ value_of scale text → IsAnswer text scale r
unfolding value_of
answer_is text scale r is = answer_by text scale (decimal_of text) r refl is
