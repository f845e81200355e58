use Rattle.std.proofs.Common.{◌∙◌, refl, subst, sym}
use Rattle.std.specs.Prelude.{pos}
use Rattle.std.proofs.lemmas.Int.{to_z-of_z}
use mir.Syntax.{w64}
use Rattle.fixed_geom.specs.Vectors.{IsWithin}
use Rattle.ray_walk.proofs.FormSums.{entry_read, start_read, start_within}
use Rattle.ray_walk.proofs.form.Form.make.Goals as goal

pub invariant_of-result : goal.invariant_of-result
invariant_of-result c =
    let r = c.raised in
    let x = c.ray_part in
    let y = c.ray_part-2 in
    record {
      row_bound = c.requires.row;
      start_bound = subst (IsWithin (pos 576460752303423488)) (sym (start_read r.result x.result y.result r.ensures.bound x.ensures.bound y.ensures.bound)) (start_within r.result x.result y.result r.ensures.bound x.ensures.bound y.ensures.bound);
    }

pub returns : goal.returns
returns c =
    let r = c.raised in
    let x = c.ray_part in
    let y = c.ray_part-2 in
    record {
      row = refl;
      start = start_read r.result x.result y.result r.ensures.bound x.ensures.bound y.ensures.bound ∙ rw (r.ensures.value, x.ensures.value, y.ensures.value, to_z-of_z w64 c.args.t c.ranges.t, to_z-of_z w64 c.args.raise c.ranges.raise, entry_read c.args.row.x c.requires.row.x, entry_read c.args.row.y c.requires.row.y) refl;
    }
