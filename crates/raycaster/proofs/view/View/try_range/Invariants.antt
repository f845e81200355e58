use Rattle.raycaster.specs.Views.{IsLookedUp, scene_of_view}
use Rattle.raycaster.proofs.TryLemmas.{HasNoneBefore}
use Rattle.raycaster.proofs.view.View.try_range.Given as goal

abbrev pub invariant-loop-j : goal.invariant-loop-j
invariant-loop-j l = record {
  none : HasNoneBefore (scene_of_view l.self) l.u l.v l.fn.range l.j;
  block : IsLookedUp l.self.rest.now l.block;
}
