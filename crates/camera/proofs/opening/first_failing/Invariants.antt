use Rattle.std.proofs.Common.{◌≡◌, ◌+◌, drop}
use Rattle.camera.specs.Opening.{first_failing}
use Rattle.camera.proofs.opening.first_failing.Given as goal

abbrev pub invariant-loop-holds : goal.invariant-loop-holds
invariant-loop-holds l = record {
  number : l.number ≡ l.first + l.holds-index;
  rest : first_failing l.number (drop l.holds-index l.tests) ≡ first_failing l.first l.tests;
}
