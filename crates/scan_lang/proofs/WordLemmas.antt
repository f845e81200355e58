-- The words of a line, found one after another, and the numbers that they write.
use Rattle.std.proofs.Common.{◌≡◌, ℕ, suc, ◌≤◌, ◌<◌, ◌+◌, ◌-◌, ℤ, List, [], ◌∷◌, ◌++◌, length, take, drop, Bool, true, false, not, eqb, ltb, None, Some, Result, Ok, refl, sym, ap, ◌∙◌, cond, length-drop, arith}
use Rattle.std.proofs.lemmas.List.{drop-drop, take_all}
use Rattle.std.proofs.lemmas.List.Sums.{prefix_len-le-length}
use Rattle.std.proofs.lemmas.List.Folds.{length-prefix_len}
use Rattle.std.proofs.lemmas.Bool.Decides.{nat_tests}
use Rattle.std.specs.List.{before_first, onto_first, position, position_or_len, slice_split}
use Rattle.std.specs.Option.{unwrap_or}
use Rattle.scan_io.specs.Steps.{◌>>=◌}
use Rattle.scan_lang.specs.declared.error.BadScan.{BadScan}
use Rattle.scan_lang.specs.declared.words.Span.{Span}
use Rattle.scan_lang.specs.Words.{is_blank, Word, words_in}
use Rattle.scan_lang.specs.Spans.{words_from, words_with}

abbrev pub is_inside : ℕ → Bool
is_inside b = not (is_blank b)

-- ---- the first byte that passes

first_or : (n m : ℕ) (test : Bool) → ltb n m ≡ test → n ≤ m → unwrap_or (cond test (Some n) None) m ≡ n
first_or n m true e fits = refl
first_or n m false e fits = grind (arith, nat_tests)

-- the first index, or the length
pub position_or : (p : ℕ → Bool) (text : List ℕ) → unwrap_or (position p text) (length text) ≡ position_or_len p text
position_or p text = first_or (position_or_len p text) (length text) (ltb (position_or_len p text) (length text)) refl (prefix_len-le-length (λ b. not (p b)) text)

pub at_most : (p : ℕ → Bool) (text : List ℕ) → position_or_len p text ≤ length text
at_most p text = prefix_len-le-length (λ b. not (p b)) text

-- a text is empty, or its first byte passes
abbrev Begins : (ℕ → Bool) → List ℕ → Type 0
Begins p [] = Unit {0}
Begins p (b ∷ text) = p b ≡ true

stops_on : (p : ℕ → Bool) (b : ℕ) (text : List ℕ) (test : Bool) → p b ≡ test → Begins p (drop (position_or_len p text) text) → Begins p (drop (position_or_len p (b ∷ text)) (b ∷ text))
stops_on p b text true e ih = rw e e
stops_on p b text false e ih = let n : 1 + position_or_len p text ≡ suc (position_or_len p text) = omega arith in rw (e, n) ih

stops : (p : ℕ → Bool) (text : List ℕ) → Begins p (drop (position_or_len p text) text)
stops p [] = tt
stops p (b ∷ text) = stops_on p b text (p b) refl (stops p text)

-- ---- blanks

skip_step : (at b : ℕ) (text : List ℕ) (test : Bool) → is_blank b ≡ test
    → words_in (at + 1) (slice_split is_blank text) ≡ words_in ((at + 1) + position_or_len is_inside text) (slice_split is_blank (drop (position_or_len is_inside text) text))
    → words_in at (slice_split is_blank (b ∷ text)) ≡ words_in (at + position_or_len is_inside (b ∷ text)) (slice_split is_blank (drop (position_or_len is_inside (b ∷ text)) (b ∷ text)))
skip_step at b text true e ih =
    let n : 1 + position_or_len is_inside text ≡ suc (position_or_len is_inside text) = omega arith in
    let m : at + suc (position_or_len is_inside text) ≡ (at + 1) + position_or_len is_inside text = omega arith in
    rw (e, n, m) ih
skip_step at b text false e ih =
    let z : position_or_len is_inside (b ∷ text) ≡ 0 = rw e refl in
    let n : at + position_or_len is_inside (b ∷ text) ≡ at = omega arith in
    rw n (ap (λ (k : ℕ). words_in at (slice_split is_blank (drop k (b ∷ text)))) (sym z))

skipped : (at : ℕ) (text : List ℕ) → words_in at (slice_split is_blank text) ≡ words_in (at + position_or_len is_inside text) (slice_split is_blank (drop (position_or_len is_inside text) text))
skipped at [] = refl
skipped at (b ∷ text) = skip_step at b text (is_blank b) refl (skipped (at + 1) text)

-- ---- one word

-- the pieces of a rest, which is empty or begins with a blank
abbrev pieces_after : List ℕ → List (List ℕ)
pieces_after [] = []
pieces_after (b ∷ text) = slice_split is_blank text

first_step : (b : ℕ) (text : List ℕ) (test : Bool) → is_blank b ≡ test → slice_split is_blank text ≡ before_first is_blank text ∷ pieces_after (drop (position_or_len is_blank text) text)
    → slice_split is_blank (b ∷ text) ≡ before_first is_blank (b ∷ text) ∷ pieces_after (drop (position_or_len is_blank (b ∷ text)) (b ∷ text))
first_step b text true e ih = rw e refl
first_step b text false e ih =
    let n : 1 + position_or_len is_blank text ≡ suc (position_or_len is_blank text) = omega arith in
    rw (e, n) (ap (onto_first b) ih)

pieces_first : (text : List ℕ) → slice_split is_blank text ≡ before_first is_blank text ∷ pieces_after (drop (position_or_len is_blank text) text)
pieces_first [] = refl
pieces_first (b ∷ text) = first_step b text (is_blank b) refl (pieces_first text)

rest_words : (at : ℕ) (rest : List ℕ) → Begins is_blank rest → words_in (at + 1) (pieces_after rest) ≡ words_in at (slice_split is_blank rest)
rest_words at [] begins = refl
rest_words at (b ∷ rest) begins = rw begins refl

some_bytes : (b : ℕ) (text : List ℕ) → is_blank b ≡ false → position_or_len is_blank (b ∷ text) ≡ 1 + position_or_len is_blank text
some_bytes b text e = rw e refl

piece_in : (at n : ℕ) (piece : List ℕ) (pieces : List (List ℕ)) → length piece ≡ n → 0 < n → words_in at (piece ∷ pieces) ≡ record { at = at; bytes = piece } ∷ words_in (at + n + 1) pieces
piece_in at n piece pieces size some = let e : eqb n 0 ≡ false = grind (arith, nat_tests) in rw (size, e) refl

word_first : (at n : ℕ) (text : List ℕ) → n ≡ position_or_len is_blank text → 0 < n → words_in at (slice_split is_blank text) ≡ record { at = at; bytes = take n text } ∷ words_in (at + n) (slice_split is_blank (drop n text))
word_first at n text is some =
    rw (pieces_first text, ← is) (piece_in at n (take n text) (pieces_after (drop n text)) (rw is (length-prefix_len (λ b. not (is_blank b)) text)) some
    ∙ ap (λ (ws : List Word). record { at = at; bytes = take n text } ∷ ws) (rest_words (at + n) (drop n text) (rw is (stops is_blank text))))

not_blank : (test : Bool) → not test ≡ true → test ≡ false
not_blank true is = cc
not_blank false is = refl

on_word : (start stop : ℕ) (text line : List ℕ) → text ≡ drop start line → stop ≡ start + position_or_len is_blank text → Begins is_inside text
    → words_in start (slice_split is_blank text) ≡ cond (eqb start stop) [] (record { at = start; bytes = take (stop - start) (drop start line) } ∷ words_in stop (slice_split is_blank (drop stop line)))
on_word start stop [] line is end begins = let e : eqb start stop ≡ true = grind (arith, nat_tests) in rw e refl
on_word start stop (b ∷ text) line is end begins =
    let some : position_or_len is_blank (b ∷ text) ≡ 1 + position_or_len is_blank text = some_bytes b text (not_blank (is_blank b) begins) in
    let e : eqb start stop ≡ false = grind (arith, nat_tests, some, end) in
    let n : stop - start ≡ position_or_len is_blank (b ∷ text) = omega (arith, some, end) in
    let more : 0 < stop - start = omega (arith, some, end) in
    let stops_at : start + (stop - start) ≡ stop = omega (arith, some, end) in
    let rest : drop (stop - start) (b ∷ text) ≡ drop stop line = ap (drop (stop - start)) is ∙ drop-drop (stop - start) start line ∙ ap (λ (k : ℕ). drop k line) stops_at in
    word_first start (stop - start) (b ∷ text) n more ∙ rw (e, rest, stops_at, is) refl

-- blanks are skipped, and then comes a word
pub word_found : (line : List ℕ) (from start stop : ℕ) → start ≡ from + position_or_len is_inside (drop from line) → stop ≡ start + position_or_len is_blank (drop start line) → words_from from line ≡ words_with line (record { start = start; end = stop })
word_found line from start stop begin end =
    let rest : drop (position_or_len is_inside (drop from line)) (drop from line) ≡ drop start line = drop-drop (position_or_len is_inside (drop from line)) from line ∙ ap (λ (k : ℕ). drop k line) (sym begin) in
    skipped from (drop from line) ∙ rw (rest, ← begin) (on_word start stop (drop start line) line refl end (rw rest at (stops is_inside (drop from line))))

-- what a slice from an index on is
pub rest_of : (from : ℕ) (line : List ℕ) → take (length line - from) (drop from line) ≡ drop from line
rest_of from line = take_all (length line - from) (drop from line) (simp length-drop (omega arith))

-- ---- how many words there are

count_on : (line : List ℕ) (s : Span) (test : Bool) → eqb s.start s.end ≡ test → length (words_with line s) ≡ cond test 0 (1 + length (words_from s.end line))
count_on line s true e = rw e refl
count_on line s false e = rw e (omega arith)

-- there is no word, or one more than after it
pub count_with : (line : List ℕ) (s : Span) → length (words_with line s) ≡ cond (eqb s.start s.end) 0 (1 + length (words_from s.end line))
count_with line s = count_on line s (eqb s.start s.end) refl

-- ---- the numbers

-- the numbers so far, and those that are still to be read
abbrev pub numbers_onto : List ℤ → Result (List ℤ) BadScan → Result (List ℤ) BadScan
numbers_onto ns r = r >>= λ more. Ok (ns ++ more)
