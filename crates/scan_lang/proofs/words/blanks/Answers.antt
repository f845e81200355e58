use Rattle.scan_lang.proofs.WordLemmas.{position_or, at_most, is_inside}
use Rattle.scan_lang.proofs.words.blanks.Goals as goal

pub returns-clause-value : goal.returns-clause-value
returns-clause-value c = rw (c.unwrap_or.ensures, c.first_of_word.ensures.first) (position_or is_inside c.args.text.now)

pub returns-clause-bound : goal.returns-clause-bound
returns-clause-bound c = rw (c.unwrap_or.ensures, c.first_of_word.ensures.first, position_or is_inside c.args.text.now) (at_most is_inside c.args.text.now)
