use Rattle.std.proofs.Common.{◌++◌, Some}
use Rattle.scan_gen.specs.Generated.{generated_scan}
use Rattle.fusion_cli.proofs.CommandLemmas.{demo_run}
use Rattle.fusion_cli.proofs.run.run_demo.Goals as goal

pub returns : goal.returns
returns g c = demo_run (generated_scan c.args.seed c.args.frames) (Some (c.run_scan.new.source.held ++ c.run_scan.new.source.later)) _ _ _ (rw c.in_ok-source.ensures at c.run_scan.ensures)
