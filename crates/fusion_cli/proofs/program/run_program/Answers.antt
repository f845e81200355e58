use Rattle.std.proofs.Common.{map, string_bytes, sym, ap, ◌∙◌}
use Rattle.command_words.specs.Words.{command_of}
use Rattle.fusion_cli.proofs.CommandLemmas.{command_is, without_words}
use Rattle.fusion_cli.proofs.program.run_program.Goals.{in-Ok, in-Err}
use Rattle.fusion_cli.proofs.program.run_program.Goals as goal

pub returns-clause-answer : goal.returns-clause-answer
returns-clause-answer g c = elim c.match-words.branch [
  | in-Ok w ↦ rw (w.source-is, w.sink-is, w.status-is, command_is c.args.args w.in-Ok.words.items w.in-Ok.ensures.words ∙ ap (λ ws. command_of (map string_bytes ws)) (sym w.deref.ensures.value)) w.run_fusion-status.ensures.answer
  | in-Err w ↦ rw (w.source-is, w.sink-is, w.status-is) (without_words c.args.args w.in-Err.status _ _ w.in-Err.ensures.error)
]
