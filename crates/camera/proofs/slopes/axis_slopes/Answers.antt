use Rattle.std.proofs.Common.{◌∙◌, ◌+◌, [], ◌∷◌, length, ap, subst, sym, length-append}
use Rattle.std.proofs.lemmas.Int.{to_z-of_z}
use mir.Syntax.{w64}
use Rattle.fixed_geom.proofs.Machine.{read}
use Rattle.camera.specs.Slopes.{AreSlopes, IsSlope}
use Rattle.camera.proofs.SlopeLemmas.{slopes_more}
use Rattle.camera.proofs.slopes.axis_slopes.Goals as goal

pub loop-u-preserved : goal.loop-u-preserved
loop-u-preserved c =
    let centre = read c.args.centre in
    let by = read c.args.by in
    let slopes = c.loop-u.slopes.items in
    let items = c.in_ok-push.ensures.items in
    let offset = to_z-of_z w64 c.pixel_offset.result (record { sfits = c.pixel_offset.type_inv }) in
    let slope : IsSlope (read c.pixel_offset.result) by (read c.slope_of.result) = subst (IsSlope (read c.pixel_offset.result) by) (sym (to_z-of_z w64 c.slope_of.result (record { sfits = c.slope_of.type_inv }))) c.slope_of.ensures in
    record {
      count = ap length items ∙ length-append slopes (read c.slope_of.result ∷ []) ∙ ap (λ n. n + 1) c.loop-u.invariant.count;
      are = subst (AreSlopes centre by) (sym items)
          (slopes_more centre by slopes c.loop-u.u (read c.pixel_offset.result) (read c.slope_of.result) c.loop-u.invariant.count c.loop-u.invariant.are (offset ∙ c.pixel_offset.ensures.value) slope);
    }

pub returns-clause-slopes : goal.returns-clause-slopes
returns-clause-slopes c =
    let slopes = c.loop-u.slopes.items in
    subst (λ z. AreSlopes z c.args.by slopes) (to_z-of_z w64 c.args.centre c.ranges.centre)
    (subst (λ z. AreSlopes (read c.args.centre) z slopes) (to_z-of_z w64 c.args.by c.ranges.by) c.loop-u.invariant.are)
