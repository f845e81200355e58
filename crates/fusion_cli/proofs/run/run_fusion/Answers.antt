use Rattle.std.proofs.Common.{◌≤◌, ◌∙◌, ap, map, string_bytes, subst, Some}
use Rattle.command_words.proofs.WordLemmas.{frames_bound, workers_bound, workers_in}
use Rattle.command_words.specs.declared.words.Command.{Command}
use Rattle.fusion_cli.proofs.run.run_fusion.Goals as goal

pub run_demo-requires-clause-least : goal.run_demo-requires-clause-least
run_demo-requires-clause-least g c _ _ = (frames_bound (map string_bytes c.args.words.now) c.in-Ok-Demo.seed c.in-Ok-Demo.frames c.in-Ok-Demo.workers (c.in-Ok-Demo.ensures ∙ ap Some c.in-Ok-Demo.field-0-is)).0

pub run_demo-requires-clause-most : goal.run_demo-requires-clause-most
run_demo-requires-clause-most g c _ _ = (frames_bound (map string_bytes c.args.words.now) c.in-Ok-Demo.seed c.in-Ok-Demo.frames c.in-Ok-Demo.workers (c.in-Ok-Demo.ensures ∙ ap Some c.in-Ok-Demo.field-0-is)).1

pub run_scan-requires-clause-workers : goal.run_scan-requires-clause-workers
run_scan-requires-clause-workers g c _ _ = subst (λ (command : Command). (1 ≤ workers_in command) × (workers_in command ≤ 64)) c.in-Ok-Fuse.field-0-is (workers_bound (map string_bytes c.args.words.now) c.in-Ok-Fuse.field-0 c.in-Ok-Fuse.ensures)

pub run_demo-requires-clause-workers : goal.run_demo-requires-clause-workers
run_demo-requires-clause-workers g c _ _ = subst (λ (command : Command). (1 ≤ workers_in command) × (workers_in command ≤ 64)) c.in-Ok-Demo.field-0-is (workers_bound (map string_bytes c.args.words.now) c.in-Ok-Demo.field-0 c.in-Ok-Demo.ensures)

pub returns-in-Ok-Demo-clause-answer : goal.returns-in-Ok-Demo-clause-answer
returns-in-Ok-Demo-clause-answer g c = rw (c.in-Ok-Demo.ensures, c.in-Ok-Demo.field-0-is, c.status_of-in-Ok-Demo.ensures) c.run_demo.ensures.answer
