use Rattle.std.proofs.Common.{rules, ◌∙◌, ap, sym}
use Rattle.command_words.specs.Words.{is_number}
use Rattle.command_words.proofs.WordLemmas.{number_too_large}
use Rattle.command_words.proofs.words.number.Goals as goal

pub returns-in-Err : goal.returns-in-Err
returns-in-Err c = sym (number_too_large c.args.least c.args.most c.args.word.now (search rules) (ap is_number (sym c.as_bytes.ensures.value) ∙ sym c.is_number.ensures ∙ c.if-not-is_number.false) c.in-Err.ensures.value.0)
