use Rattle.std.proofs.Common.{subst}
use Rattle.std.proofs.lemmas.List.{get_or_default}
use Rattle.ray_ranges.specs.Tiles.{no_points}
use Rattle.raycaster.specs.Tries.{HasNoEnd, IsFirstEnd}
use Rattle.raycaster.specs.Views.{scene_of_view}
use Rattle.raycaster.specs.Walk.{walk_points}
use Rattle.raycaster.proofs.TryLemmas.{first_of_all, none_of_all, one_more_tried}
use Rattle.raycaster.proofs.view.View.sample.Goals as goal

pub returns-in-Some-clause-sample : goal.returns-in-Some-clause-sample
returns-in-Some-clause-sample c =
    first_of_all (scene_of_view c.args.self.now) c.args.u c.args.v c.args.ranges.now c.requires.ends c.loop-i.i c.in-Some.sample c.requires.order c.loop-i.invariant.tried (subst (λ r. IsFirstEnd (scene_of_view c.args.self.now).camera (walk_points (scene_of_view c.args.self.now) c.args.u c.args.v) r c.in-Some.sample) (get_or_default c.args.ranges.now c.loop-i.i _ no_points c.loop-i-test.true) (c.try_range-trial.ensures.some c.in-Some.sample c.in-Some.is))

pub loop-i-preserved : goal.loop-i-preserved
loop-i-preserved c = record {
  tried = one_more_tried (walk_points (scene_of_view c.args.self.now) c.args.u c.args.v) c.args.ranges.now c.loop-i.i c.loop-i.invariant.tried (subst (HasNoEnd (walk_points (scene_of_view c.args.self.now) c.args.u c.args.v)) (get_or_default c.args.ranges.now c.loop-i.i _ no_points c.loop-i-test.true) (c.try_range-trial.ensures.none c.in_default.is));
  block = c.try_range-trial.ensures.looked_up;
}

pub returns-clause-sample : goal.returns-clause-sample
returns-clause-sample c = none_of_all (scene_of_view c.args.self.now) c.args.u c.args.v c.args.ranges.now c.requires.ends c.loop-i.i c.loop-i-test.false c.loop-i.invariant.tried
