use Rattle.std.proofs.Common.{◌≡◌, ◌++◌}
use Rattle.collector.specs.Checks.{checks_of}
use Rattle.collector.proofs.CheckLemmas.{checks_from}
use Rattle.collector.proofs.checks.check_jobs.Given as goal

abbrev pub invariant-loop-n : goal.invariant-loop-n
invariant-loop-n l = l.jobs.items ++ checks_from l.cells l.n ≡ checks_of l.cells
