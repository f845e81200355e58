use Rattle.raycaster.specs.Views.{IsLookedUp, scene_of_view}
use Rattle.raycaster.specs.Walk.{walk_points}
use Rattle.raycaster.proofs.TryLemmas.{AreTried}
use Rattle.raycaster.proofs.view.View.sample.Given as goal

abbrev pub invariant-loop-i : goal.invariant-loop-i
invariant-loop-i l = record {
  tried : AreTried (walk_points (scene_of_view l.self) l.u l.v) l.ranges l.i;
  block : IsLookedUp l.self.rest.now l.block;
}
