use Rattle.std.proofs.Common.{◌∙◌, sym, map, string_bytes}
use Rattle.std.proofs.lemmas.Result.{err_from_is_err_and}
use Rattle.clap.specs.Words.{app_of}
use Rattle.command_words.proofs.WordLemmas.{command_found, command_refused}
use Rattle.command_words.proofs.words.read_words.Goals as goal

pub returns-in_err-matches : goal.returns-in_err-matches
returns-in_err-matches c =
    let p = err_from_is_err_and c.from_residual-in_err-matches.result c.from_residual-in_err-matches.ensures.1 in
    rw p.1 (λ usage. command_refused (app_of c.in_ok-program.field-0) (map string_bytes c.args.words.now) c.in_err-matches.field-0.0 c.in_ok-program.ensures.app c.in_err-matches.ensures.kinds (sym p.2 ∙ usage))

pub returns-in-Some : goal.returns-in-Some
returns-in-Some c = command_found (app_of c.in_ok-program.field-0) (map string_bytes c.args.words.now) c.in_ok-matches.matches c.in_ok-program.ensures.app c.in_ok-matches.ensures.kinds c.in_ok-matches.ensures.matches ∙ sym c.command_in.ensures ∙ c.in-Some.is

pub returns : goal.returns
returns c usage = command_found (app_of c.in_ok-program.field-0) (map string_bytes c.args.words.now) c.in_ok-matches.matches c.in_ok-program.ensures.app c.in_ok-matches.ensures.kinds c.in_ok-matches.ensures.matches ∙ sym c.command_in.ensures ∙ c.in-None.is
