use Rattle.std.proofs.Common.{◌≡◌, ℕ, ◌<◌, length, refl, sym, ap, subst, ◌∙◌, arith}
use Rattle.std.specs.Prelude.{ℤ, pos, ◌<ℤ◌}
use Rattle.std.proofs.lemmas.Int.{ints}
use Rattle.camera.proofs.RayLemmas.{column_inside}
use Rattle.camera.specs.declared.camera.CameraFields.{CameraFields}
use Rattle.raycaster.specs.Tries.{HaveAllEnds}
use Rattle.raycaster.specs.Views.{scene_of_view}
use Rattle.raycaster.specs.Walk.{walk_points}
use Rattle.raycaster.proofs.LowLemmas.{are_ascending, have_all_ends}
use Rattle.raycaster.proofs.RowLemmas.{one_more_sample, whole_row}
use Rattle.raycaster.proofs.picture.sample_row.Goals as goal

pub tile-requires-clause-column : goal.tile-requires-clause-column
tile-requires-clause-column c = subst (λ (k : CameraFields). pos c.loop-u.u <ℤ k.width) (sym c.requires.low.camera) (column_inside c.loop-u.u c.width-u-end.result c.args.view.now.walks.fields.width c.width-u-end.ensures c.loop-u-test.true)

pub tile-requires-clause-row : goal.tile-requires-clause-row
tile-requires-clause-row c = subst (λ (k : CameraFields). pos c.args.v <ℤ k.height) (sym c.requires.low.camera) c.requires.row

pub sample-shown-requires-clause-ends : goal.sample-shown-requires-clause-ends
sample-shown-requires-clause-ends c =
    let s = scene_of_view c.args.view.now in
    let k = c.args.view.now.walks.fields in
    subst (HaveAllEnds (walk_points s c.loop-u.u c.args.v)) (sym c.tile.ensures.value)
    (have_all_ends k s c.args.ranges.now c.loop-u.u c.args.v refl (column_inside c.loop-u.u c.width-u-end.result k.width c.width-u-end.ensures c.loop-u-test.true) c.requires.row c.requires.low)

pub sample-shown-requires-clause-order : goal.sample-shown-requires-clause-order
sample-shown-requires-clause-order c = are_ascending c.tile.result.now c.args.ranges.now.shape.slab c.tile.ensures.slabs

inside : (u n l m : ℕ) (w : ℤ) → pos n ≡ w → pos m ≡ w → l ≡ m → u < n → u < l
inside u n l m w a b e h = omega (arith, ints, a, b, e, h)

pub bounds-out-u : goal.bounds-out-u
bounds-out-u c = inside c.loop-u.u c.width-u-end.result (length c.loop-u.out) (length c.args.out.now) c.args.view.now.walks.fields.width c.width-u-end.ensures c.requires.width c.loop-u.auto.out c.loop-u-test.true

pub loop-u-preserved : goal.loop-u-preserved
loop-u-preserved c = record {
  samples = one_more_sample (scene_of_view c.args.view.now) c.args.v c.loop-u.out c.loop-u.u c.loop-u.invariant.samples c.sample-shown.result.sample
      (inside c.loop-u.u c.width-u-end.result (length c.loop-u.out) (length c.args.out.now) c.args.view.now.walks.fields.width c.width-u-end.ensures c.requires.width c.loop-u.auto.out c.loop-u-test.true) c.sample-shown.ensures.sample;
  block = c.sample-shown.ensures.looked_up;
}

pub returns : goal.returns
returns c =
    let wide : pos (length c.loop-u.out) ≡ c.args.view.now.walks.fields.width = ap pos c.loop-u.auto.out ∙ c.requires.width in
    whole_row (scene_of_view c.args.view.now) c.args.v c.loop-u.out c.loop-u.u c.loop-u.invariant.samples wide (omega (arith, ints, wide, c.width-u-end.ensures, c.loop-u-test.false))
