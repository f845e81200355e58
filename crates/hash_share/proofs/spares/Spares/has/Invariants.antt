use Rattle.std.proofs.Common.{◌≡◌}
use Rattle.hash_share.specs.Spares.{stack_of}
use Rattle.fusion_core.specs.TouchCounts.{times}
use Rattle.hash_share.proofs.spares.Spares.has.Given as goal

abbrev pub invariant-loop-i : goal.invariant-loop-i
invariant-loop-i l = times l.node (stack_of l.self-inside.numbers l.i) ≡ 0
