use Rattle.std.proofs.Common.{subst, sym, arith}
use Rattle.std.proofs.lemmas.Int.{ints}
use Rattle.camera.specs.Cameras.{IsCamera}
use Rattle.camera.proofs.SlopeLemmas.{centre_high, slopes_made, unit_made}
use Rattle.camera.proofs.slopes.Slopes.make.Goals as goal

pub axis_slopes-requires-2-clause-centre_high : goal.axis_slopes-requires-2-clause-centre_high
axis_slopes-requires-2-clause-centre_high c =
    let k = c.fields-fields.result in
    let r = (subst IsCamera (sym c.fields-fields.ensures.value) c.fields-fields.ensures.camera).ranges in
    centre_high k.height k.cy r.height_high r.cy_high r.cy

pub invariant_of-result : goal.invariant_of-result
invariant_of-result c =
    let k = c.fields-fields.result in
    let is : IsCamera k = subst IsCamera (sym c.fields-fields.ensures.value) c.fields-fields.ensures.camera in
    let r = is.ranges in
    let x = c.unit_of-unit_x.ensures in
    let y = c.unit_of-unit_y.ensures in
    record {
      camera = is;
      x = unit_made k.fx c.unit_of-unit_x.result r.fx r.fx_high x.least x.high x.product;
      y = unit_made k.fy c.unit_of-unit_y.result r.fy r.fy_high y.least y.high y.product;
      width = omega (arith, ints, r.width, r.width_high, c.in_ok-columns.ensures.count);
      height = omega (arith, ints, r.height, r.height_high, c.in_ok-rows.ensures.count);
      in_columns = slopes_made k.cx k.fx c.unit_of-unit_x.result c.divisor.result c.in_ok-columns.columns.items r.cx (omega (arith, ints, r.cx_high, r.width_high)) r.fx r.fx_high c.divisor.ensures.value c.divisor.ensures.large c.divisor.ensures.most c.in_ok-columns.ensures.slopes;
      in_rows = slopes_made k.cy k.fy c.unit_of-unit_y.result c.divisor-2.result c.in_ok-rows.rows.items r.cy (omega (arith, ints, r.cy_high, r.height_high)) r.fy r.fy_high c.divisor-2.ensures.value c.divisor-2.ensures.large c.divisor-2.ensures.most c.in_ok-rows.ensures.slopes;
    }
