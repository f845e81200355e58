use Rattle.std.proofs.Common.{◌∙◌, ◌+◌, ◌*◌, ◌≤◌, List, length, ap, subst, sym}
use Rattle.std.specs.Prelude.{slice_range}
use Rattle.ray_ranges.specs.declared.point_range.PointRange.{PointRange}
use Rattle.ray_ranges.specs.Tables.{Table}
use Rattle.ray_ranges.proofs.RangeLemmas.{part_in_slabs}
use Rattle.ray_ranges.proofs.SlabLemmas.{part_inside}
use Rattle.ray_ranges.proofs.ranges.Ranges.tile.Goals as goal

pub ranges_between-requires-clause-end : goal.ranges_between-requires-clause-end
ranges_between-requires-clause-end c =
    let s = c.self.inside.shape in
    let start = c.range_index-start in
    let tile = c.tile_number-tile in
    subst (λ (l : List PointRange). start.result + s.slabs ≤ length l) (sym c.as_slice.ensures.value) (part_inside start.result tile.result (s.down * s.across) s.slabs (length c.self.inside.list.items) start.ensures.value tile.ensures.bound c.self.invariant.size)

pub returns-clause-slabs : goal.returns-clause-slabs
returns-clause-slabs c =
    let s = c.self.inside.shape in
    let start = c.range_index-start in
    let tile = c.tile_number-tile in
    part_in_slabs s c.self.inside.list.items c.ranges_between.result.now tile.result start.result c.args.self.now.shape.slab c.self.invariant.ranges start.ensures.value
    (part_inside start.result tile.result (s.down * s.across) s.slabs (length c.self.inside.list.items) start.ensures.value tile.ensures.bound c.self.invariant.size)
    (c.ranges_between.ensures ∙ ap (λ (l : List PointRange). slice_range l start.result (start.result + s.slabs)) c.as_slice.ensures.value) (ap (λ (t : Table). t.shape.slab) c.self.view_is)
