-- A line that is read byte by byte.
use Rattle.std.proofs.Common.{◌≡◌, ℕ, ◌≤◌, ◌<◌, ◌+◌, List, [], ◌∷◌, ◌++◌, length, take, drop, Bool, true, false, eqb, ltb, leb, None, Some, Result, Ok, Err, refl, sym, ap, ◌∙◌, cond, append_assoc, length-append, arith}
use Rattle.std.specs.List.{position_or_len}
use Rattle.std.proofs.lemmas.List.{take_at, drop_at}
use Rattle.std.proofs.lemmas.Bool.{lt-ltb, le-ltb, le-leb, lt-leb}
use Rattle.std.proofs.lemmas.Bool.Decides.{nat_tests}
use Rattle.scan_io.specs.Reading.{Came, Reads, Stream, byte_at}
use Rattle.scan_io.specs.Steps.{◌>>=◌}
use Rattle.scan_io.proofs.ReadingLemmas.{came_step}
use Rattle.scan_lang.specs.declared.error.BadScan.{BadScan}
use Rattle.scan_lang.specs.Offsets.{offset_after, short}
use Rattle.scan_lang.specs.Lines.{long, line_before, first_line}
use Rattle.scan_lang.specs.Readers.{scan_errors}

abbrev pub line_len : List ℕ → ℕ
line_len text = position_or_len (λ b. eqb b 10) text

-- bytes without a line feed
pub record IsPlain (front : List ℕ) : Type 0 where
  pub further : (rest : List ℕ) → line_len (front ++ rest) ≡ length front + line_len rest

pub plain_none : IsPlain []
plain_none = record { further = λ rest. omega arith }

pub plain_more : (front : List ℕ) (b : ℕ) → IsPlain front → (b ≡ 10 → ⊥) → IsPlain (front ++ b ∷ [])
plain_more front b plain other =
    let test : eqb b 10 ≡ false = grind (arith, nat_tests) in
    record {
      further = λ rest. rw (append_assoc, plain.further (b ∷ rest), test) (simp length-append (omega arith));
    }

-- the bytes so far, and those that are still to be read
abbrev pub line_further : (limit offset : ℕ) → (front rest : List ℕ) → Result (List ℕ × List ℕ) BadScan
line_further limit offset front rest = first_line limit offset (front ++ rest)

-- the same, after one more byte
abbrev pub line_next : (limit offset : ℕ) → (front : List ℕ) → (b : ℕ) → (rest : List ℕ) → Result (List ℕ × List ℕ) BadScan
line_next limit offset front b rest = line_further limit offset (front ++ b ∷ []) rest

none_there : (limit offset n m : ℕ) (text : List ℕ) → n ≡ m → length text ≤ limit → line_before limit offset text (cond (ltb n m) (Some n) None) ≡ Err (short (offset_after offset (length text)))
none_there limit offset n m text is fits =
    let e : ltb n m ≡ false = le-ltb n m (omega arith) in
    let f : leb (length text) limit ≡ true = le-leb (length text) limit fits in
    rw (e, f) refl

-- the input ends before a line feed
line_short : (limit offset now : ℕ) (front : List ℕ) → IsPlain front → length front ≤ limit → now ≡ offset_after offset (length front) → line_further limit offset front [] ≡ Err (short now)
unfolding first_line
line_short limit offset now front plain fits at =
    let size : length (front ++ []) ≡ length front = simp length-append (omega arith) in
    none_there limit offset (line_len (front ++ [])) (length (front ++ [])) (front ++ []) (plain.further [] ∙ simp length-append (omega arith)) (omega arith)
    ∙ ap (λ (n : ℕ). Err (short n)) (ap (offset_after offset) size ∙ sym at)

pub line_split : (limit offset now : ℕ) (front : List ℕ) → IsPlain front → length front ≤ limit → now ≡ offset_after offset (length front) → (t : List ℕ) → line_further limit offset front t ≡ (byte_at short now t >>= λ p. line_next limit offset front p.0 p.1)
line_split limit offset now front plain fits at [] = line_short limit offset now front plain fits at
line_split limit offset now front plain fits at (b ∷ t) = ap (first_line limit offset) (sym (append_assoc front (b ∷ []) t))

-- one more byte was read
pub byte_came : (limit offset now : ℕ) (front : List ℕ) {b : ℕ} {old mid new : Stream} → IsPlain front → length front ≤ limit → now ≡ offset_after offset (length front) → Came (first_line limit offset) (line_further limit offset front) old mid
    → Reads scan_errors (λ (x : ℕ). x) (byte_at short now) mid new (Ok b) → Came (first_line limit offset) (line_next limit offset front b) old new
byte_came limit offset now front plain fits at came byte = came_step (line_next limit offset front) came byte (line_split limit offset now front plain fits at)

there : (limit offset n m k : ℕ) (text : List ℕ) → n ≡ k → k < m → k ≤ limit → line_before limit offset text (cond (ltb n m) (Some n) None) ≡ Ok (take k text, drop (k + 1) text)
there limit offset n m k text is inside fits =
    let e : ltb k m ≡ true = lt-ltb k m inside in
    let f : leb k limit ≡ true = le-leb k limit fits in
    rw (is, e, f) refl

-- a line feed comes
pub line_end : (limit offset : ℕ) (front : List ℕ) → IsPlain front → length front ≤ limit → (t : List ℕ) → line_next limit offset front 10 t ≡ Ok (front, t)
unfolding first_line
line_end limit offset front plain fits t =
    let text : (front ++ 10 ∷ []) ++ t ≡ front ++ 10 ∷ t = append_assoc front (10 ∷ []) t in
    let n : line_len (front ++ 10 ∷ t) ≡ length front = plain.further (10 ∷ t) ∙ omega arith in
    let line : take (length front) (front ++ 10 ∷ t) ≡ front = take_at front (10 ∷ t) (length front) refl in
    let rest : drop (length front + 1) (front ++ 10 ∷ t) ≡ t = ap (drop (length front + 1)) (sym text) ∙ drop_at (front ++ 10 ∷ []) t (length front + 1) (length-append front (10 ∷ [])) in
    rw text (there limit offset (line_len (front ++ 10 ∷ t)) (length (front ++ 10 ∷ t)) (length front) (front ++ 10 ∷ t) n (simp length-append (omega arith)) fits ∙ rw (line, rest) refl)

over : (limit offset n : ℕ) (text : List ℕ) (test : Bool) → limit < n → limit < length text → line_before limit offset text (cond test (Some n) None) ≡ Err (long limit offset)
over limit offset n text true more size = let e : leb n limit ≡ false = lt-leb n limit more in rw e refl
over limit offset n text false more size = let e : leb (length text) limit ≡ false = lt-leb (length text) limit size in rw e refl

-- too many bytes stand before the line feed
pub line_long : (limit offset : ℕ) (front : List ℕ) → IsPlain front → limit < length front → (t : List ℕ) → line_further limit offset front t ≡ Err (long limit offset)
unfolding first_line
line_long limit offset front plain more t =
    let size : limit < length (front ++ t) = simp length-append (omega arith) in
    over limit offset (line_len (front ++ t)) (front ++ t) (ltb (line_len (front ++ t)) (length (front ++ t))) (omega (arith, plain.further t)) size
