use Rattle.std.proofs.Common.{length, ◌≡◌}
use Rattle.camera.specs.Slopes.{AreSlopes}
use Rattle.camera.proofs.slopes.axis_slopes.Given as goal

-- the slopes of the first u pixels
abbrev pub invariant-loop-u : goal.invariant-loop-u
invariant-loop-u l = record {
  count : length l.slopes.items ≡ l.u;
  are : AreSlopes l.fn.centre l.fn.by l.slopes.items;
}
