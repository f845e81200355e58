use Rattle.std.proofs.Common.{◌/◌, ap, ◌∙◌}
use Rattle.std.specs.Prelude.{ℤ, unsigned_abs}
use Rattle.ray_ranges.proofs.TileLemmas.{same_tiles, small_read}
use Rattle.ray_ranges.proofs.tile_box.tiles_of.Goals as goal

pub returns : goal.returns
returns c =
    let b = c.args.found.now in
    let s = c.requires in
    same_tiles _ _ _ _ _ _ _ _ _ _ _ _
    (c.tile.ensures ∙ ap (λ (z : ℤ). unsigned_abs z / 8) (small_read b.columns.low s.left))
    (c.tile-2.ensures ∙ ap (λ (z : ℤ). unsigned_abs z / 8) (small_read b.columns.high s.right))
    (c.tile-3.ensures ∙ ap (λ (z : ℤ). unsigned_abs z / 8) (small_read b.rows.low s.top))
    (c.tile-4.ensures ∙ ap (λ (z : ℤ). unsigned_abs z / 8) (small_read b.rows.high s.bottom))
    (c.point.ensures ∙ ap (λ (z : ℤ). unsigned_abs z) (small_read b.points.low s.first))
    (c.point-2.ensures ∙ ap (λ (z : ℤ). unsigned_abs z) (small_read b.points.high s.last))
