use Rattle.std.proofs.Common.{◌≡◌, ℕ, ◌<◌, length, sym, ap, subst, ◌∙◌, arith}
use Rattle.std.specs.Prelude.{ℤ, pos}
use Rattle.std.proofs.lemmas.Int.{ints}
use Rattle.fixed_geom.specs.Poses.{IsPose}
use Rattle.camera.proofs.RayLemmas.{column_inside}
use Rattle.camera.specs.declared.camera.CameraFields.{CameraFields}
use Rattle.streamer.specs.Places.{heap_blocks}
use Rattle.raycaster.specs.Views.{scene_of_view}
use Rattle.raycaster.specs.Walk.{row_samples, scene_of}
use Rattle.raycaster.proofs.RowLemmas.{one_more_sample, whole_row}
use Rattle.raycaster.proofs.TryLemmas.{one_ascending, one_has_all}
use Rattle.raycaster.proofs.picture.render_row.Goals as goal

inside : (u n l m : ℕ) (w : ℤ) → pos n ≡ w → pos m ≡ w → l ≡ m → u < n → u < l
inside u n l m w a b e h = omega (arith, ints, a, b, e, h)

pub sample-shown-requires-clause-column : goal.sample-shown-requires-clause-column
sample-shown-requires-clause-column c = column_inside c.loop-u.u c.width-u-end.result c.of-view.result.walks.fields.width c.width-u-end.ensures c.loop-u-test.true

pub sample-shown-requires-clause-ends : goal.sample-shown-requires-clause-ends
sample-shown-requires-clause-ends c = one_has_all (scene_of_view c.of-view.result) c.loop-u.u c.args.v c.all_points.result c.all_points.ensures

pub sample-shown-requires-clause-order : goal.sample-shown-requires-clause-order
sample-shown-requires-clause-order c = one_ascending c.all_points.result

pub bounds-out-u : goal.bounds-out-u
bounds-out-u c = inside c.loop-u.u c.width-u-end.result (length c.loop-u.out) (length c.args.out.now) c.of-view.result.walks.fields.width c.width-u-end.ensures (c.requires.width ∙ ap (λ (k : CameraFields). k.width) (sym c.of-view.ensures.fields)) c.loop-u.auto.out c.loop-u-test.true

pub loop-u-preserved : goal.loop-u-preserved
loop-u-preserved c = record {
  samples = one_more_sample (scene_of_view c.of-view.result) c.args.v c.loop-u.out c.loop-u.u c.loop-u.invariant.samples c.sample-shown.result.sample
      (inside c.loop-u.u c.width-u-end.result (length c.loop-u.out) (length c.args.out.now) c.of-view.result.walks.fields.width c.width-u-end.ensures (c.requires.width ∙ ap (λ (k : CameraFields). k.width) (sym c.of-view.ensures.fields)) c.loop-u.auto.out c.loop-u-test.true) c.sample-shown.ensures.sample;
  block = c.sample-shown.ensures.looked_up;
}

pub returns-clause-row : goal.returns-clause-row
returns-clause-row c =
    let wide : pos (length c.loop-u.out) ≡ c.of-view.result.walks.fields.width = ap pos c.loop-u.auto.out ∙ c.requires.width ∙ ap (λ (k : CameraFields). k.width) (sym c.of-view.ensures.fields) in
    whole_row (scene_of_view c.of-view.result) c.args.v c.loop-u.out c.loop-u.u c.loop-u.invariant.samples wide (omega (arith, ints, wide, c.width-u-end.ensures, c.loop-u-test.false))
    ∙ (λ i. row_samples (scene_of (c.of-view.ensures.fields i) (c.of-view.ensures.pose i) (heap_blocks (c.of-view.ensures.rest i))) c.args.v)

pub returns-clause-pose : goal.returns-clause-pose
returns-clause-pose c = subst IsPose c.of-view.ensures.pose c.of-view.result.walks.placed
