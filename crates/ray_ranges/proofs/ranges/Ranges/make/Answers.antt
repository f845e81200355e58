use Rattle.std.proofs.Common.{◌≡◌, ◌∙◌, ap, subst, sym, List, length, replicate}
use Rattle.std.proofs.lemmas.List.{length-replicate}
use Rattle.fixed_geom.specs.PoseTest.{pose_of}
use Rattle.ray_ranges.specs.declared.point_range.PointRange.{PointRange}
use Rattle.ray_ranges.specs.Tables.{AreRanges, RangesHave}
use Rattle.ray_ranges.specs.Tiles.{no_points}
use Rattle.ray_ranges.proofs.RangeLemmas.{no_ranges, none_have}
use Rattle.ray_ranges.proofs.ranges.Ranges.make.Goals as goal

items : (c : goal.In_ok-list) → c.in_ok-list.list.items ≡ replicate c.range_count.result no_points
items c = c.in_ok-list.ensures.items_if_clones_equal (λ y e. e)

pub invariant_of-result : goal.invariant_of-result
invariant_of-result c =
    let s = c.of-shape.result in
    let n = c.range_count.result in
    record {
      shape = c.of-shape.ensures;
      size = ap (λ (l : List PointRange). length l) (items c) ∙ length-replicate n no_points ∙ c.range_count.ensures;
      ranges = subst (AreRanges s) (sym (items c)) (no_ranges s n);
    }

pub returns-clause-empty : goal.returns-clause-empty
returns-clause-empty c =
    let k = c.make-projector.result.fields in
    let m = pose_of c.make-projector.result.rows in
    let s = c.of-shape.result in
    λ u v j h. none_have k m s c.range_count.result u v j (subst (λ (l : List PointRange). RangesHave (record { camera = k; pose = m; shape = s; list = l }) u v j) (items c) h)
