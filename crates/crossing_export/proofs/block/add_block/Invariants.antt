use Rattle.std.proofs.Common.{◌≡◌, ◌++◌}
use Rattle.crossing_export.specs.Crossings.{first_crossings}
use Rattle.crossing_export.specs.Steps.{InEachMap, IsGrown}
use Rattle.crossing_export.proofs.block.add_block.Given as goal

abbrev pub invariant-loop-i : goal.invariant-loop-i
invariant-loop-i l = record {
  appended : InEachMap l.around (λ m. l.out.items ≡ l.initial.out.items ++ first_crossings m l.size l.around.key l.i);
  grown : IsGrown l.initial.out.items l.out.items;
}
