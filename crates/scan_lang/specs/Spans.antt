-- Words that are found one after another in a line.
use Rattle.std.specs.Prelude.{ℕ, ◌-◌, ◌==◌, if◌then◌else◌, List, [], ◌∷◌, take, drop}
use Rattle.std.specs.List.{slice_split}
use Rattle.scan_lang.specs.declared.words.Span.{Span}
use Rattle.scan_lang.specs.Words.{is_blank, Word, words_in}

-- the bytes of a line from the start of a span to its end
abbrev pub bytes_of : (line : List ℕ) → Span → List ℕ
bytes_of line s = take (s.end - s.start) (drop s.start line)

-- the words of a line from an index on
abbrev pub words_from : (from : ℕ) → (line : List ℕ) → List Word
words_from from line = words_in from (slice_split is_blank (drop from line))

-- the word of a span and those after it; there are none where the span is empty
abbrev pub words_with : (line : List ℕ) → Span → List Word
words_with line s = if s.start == s.end then [] else record { at = s.start; bytes = bytes_of line s } ∷ words_from s.end line
