use Rattle.scan_lang.specs.Words.{is_blank}
use Rattle.scan_lang.proofs.WordLemmas.{position_or, at_most}
use Rattle.scan_lang.proofs.words.word_len.Goals as goal

pub returns-clause-value : goal.returns-clause-value
returns-clause-value c = rw (c.unwrap_or.ensures, c.first_blank.ensures.first) (position_or is_blank c.args.text.now)

pub returns-clause-bound : goal.returns-clause-bound
returns-clause-bound c = rw (c.unwrap_or.ensures, c.first_blank.ensures.first, position_or is_blank c.args.text.now) (at_most is_blank c.args.text.now)
