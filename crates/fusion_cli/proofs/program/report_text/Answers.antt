use Rattle.std.proofs.Common.{length, arith}
use Rattle.std.proofs.lemmas.List.{take_all}
use Rattle.fusion_cli.proofs.program.report_text.Goals as goal

pub returns-in-Ok-clause-front : goal.returns-in-Ok-clause-front
returns-in-Ok-clause-front g c = (length c.args.text.now, rw (take_all (length c.args.text.now) c.args.text.now (omega arith)) c.in-Ok.ensures.all)
