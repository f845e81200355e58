use Rattle.raycaster.specs.Views.{IsLookedUp, scene_of_view}
use Rattle.raycaster.proofs.RowLemmas.{HasSamples}
use Rattle.raycaster.proofs.picture.render_row.Given as goal

abbrev pub invariant-loop-u : goal.invariant-loop-u
invariant-loop-u l = record {
  samples : HasSamples (scene_of_view l.view) l.v l.out l.u;
  block : IsLookedUp l.view.rest.now l.block;
}
