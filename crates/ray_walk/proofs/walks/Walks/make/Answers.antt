use Rattle.std.proofs.Common.{◌∙◌, ◌≤◌, arith, ap, subst, sym}
use Rattle.std.specs.Prelude.{ℤ, pos, ◌*ℤ◌, ◌≤ℤ◌, unsigned_abs}
use Rattle.std.proofs.lemmas.Int.{ints}
use lib.Dec.{T}
use lib.Signed.{non_neg}
use mir.Val.{Fits}
use mir.Syntax.{w64}
use Rattle.fixed_geom.specs.Poses.{Pose, row_x, row_y, row_z}
use Rattle.fixed_geom.specs.Vectors.{IsWithin}
use Rattle.fixed_geom.proofs.Machine.{read}
use Rattle.camera.specs.Cameras.{IsCamera}
use Rattle.camera.proofs.Readings.{fields_read}
use Rattle.camera.proofs.SlopeLemmas.{centre_high}
use Rattle.ray_walk.specs.Raising.{reciprocal, world_raise}
use Rattle.ray_walk.proofs.WalkLemmas.{blocks_read, blocks_within, form_made, raise_read, shift_read}
use Rattle.ray_walk.proofs.walks.Walks.make.Goals as goal

pub make-requires-clause-centre_high : goal.make-requires-clause-centre_high
make-requires-clause-centre_high c =
    let k = c.fields-fields.result in
    let r = (subst IsCamera (sym c.fields-fields.ensures.value) c.fields-fields.ensures.camera).ranges in
    centre_high k.width k.cx r.width_high r.cx_high r.cx

pub make-requires-2-clause-centre_high : goal.make-requires-2-clause-centre_high
make-requires-2-clause-centre_high c =
    let k = c.fields-fields.result in
    let r = (subst IsCamera (sym c.fields-fields.ensures.value) c.fields-fields.ensures.camera).ranges in
    centre_high k.height k.cy r.height_high r.cy_high r.cy

pub overflow_cast-fields : goal.overflow_cast-fields
overflow_cast-fields c =
    let r = (subst IsCamera (sym c.fields-fields.ensures.value) c.fields-fields.ensures.camera).ranges in
    rw (fields_read c.fields-fields.result r).voxel (plain c.fields-fields.result.voxel r.voxel r.voxel_high)
  where
    plain : (s : ℤ) → pos 1000 ≤ℤ s → s ≤ℤ pos 100000 → T (non_neg s) × Fits w64 (unsigned_abs s)
    plain s a b = omega (arith, ints)

pub reciprocal-requires : goal.reciprocal-requires
reciprocal-requires c =
    let r = (subst IsCamera (sym c.fields-fields.ensures.value) c.fields-fields.ensures.camera).ranges in
    rw (fields_read c.fields-fields.result r).voxel (plain c.fields-fields.result.voxel r.voxel)
  where
    plain : (s : ℤ) → pos 1000 ≤ℤ s → 1000 ≤ unsigned_abs s
    plain s a = omega (arith, ints)

pub invariant_of-result : goal.invariant_of-result
invariant_of-result c =
    let k = c.fields-fields.result in
    let is : IsCamera k = subst IsCamera (sym c.fields-fields.ensures.value) c.fields-fields.ensures.camera in
    let m = c.args.pose.now in
    let e = c.rows-entries.ensures in
    let t = e.pose.range.t in
    let read_is = fields_read k is.ranges in
    let s = read_is.voxel in
    let n = c.raised_blocks-blocks in
    let count = blocks_read n.result n.ensures.least n.ensures.most in
    let raise = raise_read c.raise_of-raise.result c.raise_of-raise.ensures.bound ∙ c.raise_of-raise.ensures.value ∙ ap (λ (v : ℤ). world_raise v (read n.result)) s in
    record {
      camera = is;
      placed = e.pose;
      columns_focal = c.make.ensures.focal ∙ read_is.fx;
      columns_centre = c.make.ensures.centre ∙ read_is.cx;
      rows_focal = c.make-2.ensures.focal ∙ read_is.fy;
      rows_centre = c.make-2.ensures.centre ∙ read_is.cy;
      form_x = form_made _ (row_x m) _ m.t.x _ (world_raise k.voxel (read n.result)) c.make-3.result (c.row_x.ensures.value ∙ ap row_x e.back) (ap (λ (p : Pose). read p.t.x) e.back ∙ shift_read m.t.x t.x) raise c.make-3.ensures;
      form_y = form_made _ (row_y m) _ m.t.y _ (world_raise k.voxel (read n.result)) c.make-4.result (c.row_y.ensures.value ∙ ap row_y e.back) (ap (λ (p : Pose). read p.t.y) e.back ∙ shift_read m.t.y t.y) raise c.make-4.ensures;
      form_z = form_made _ (row_z m) _ m.t.z _ (world_raise k.voxel (read n.result)) c.make-5.result (c.row_z.ensures.value ∙ ap row_z e.back) (ap (λ (p : Pose). read p.t.z) e.back ∙ shift_read m.t.z t.z) raise c.make-5.ensures;
      blocks_bound = subst (IsWithin (pos 19001)) (sym count) (blocks_within n.result n.ensures.least n.ensures.most);
      blocks_low = subst (λ (v : ℤ). pos 152000000 ≤ℤ (pos 8 *ℤ v *ℤ read n.result)) s (subst (λ (f : ℤ). pos 152000000 ≤ℤ (pos 8 *ℤ read k.voxel *ℤ f)) (sym count) n.ensures.low);
      blocks_high = subst (λ (v : ℤ). (pos 8 *ℤ v *ℤ read n.result) ≤ℤ pos 152800000) s (subst (λ (f : ℤ). (pos 8 *ℤ read k.voxel *ℤ f) ≤ℤ pos 152800000) (sym count) n.ensures.high);
      parts = c.reciprocal.ensures.value ∙ ap (λ (v : ℤ). reciprocal 35184372088832 (unsigned_abs v)) s;
      parts_most = c.reciprocal.ensures.bound;
    }
