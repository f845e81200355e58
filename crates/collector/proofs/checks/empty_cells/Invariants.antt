use Rattle.std.proofs.Common.{◌≡◌, ◌++◌}
use Rattle.collector.specs.Checks.{empty_cells_of}
use Rattle.collector.proofs.CheckLemmas.{empty_from}
use Rattle.collector.proofs.checks.empty_cells.Given as goal

abbrev pub invariant-loop-j : goal.invariant-loop-j
invariant-loop-j l = l.cells.items ++ empty_from l.empty_f l.jobs l.done l.j ≡ empty_cells_of l.empty_f l.jobs l.done
