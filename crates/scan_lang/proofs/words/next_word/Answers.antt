use Rattle.std.proofs.Common.{ℕ, ◌+◌, ap}
use Rattle.scan_lang.proofs.WordLemmas.{word_found, rest_of}
use Rattle.scan_lang.proofs.words.next_word.Goals as goal

pub returns-clause-words : goal.returns-clause-words
returns-clause-words c =
    word_found c.args.line.now c.args.from (c.args.from + c.blanks.result) ((c.args.from + c.blanks.result) + c.word_len.result)
    (ap (λ (n : ℕ). c.args.from + n) (rw (rest_of c.args.from c.args.line.now) at c.blanks.ensures.value))
    (ap (λ (n : ℕ). (c.args.from + c.blanks.result) + n) (rw (rest_of (c.args.from + c.blanks.result) c.args.line.now) at c.word_len.ensures.value))
