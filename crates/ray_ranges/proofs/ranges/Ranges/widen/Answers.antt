use Rattle.std.proofs.Common.{subst, sym}
use Rattle.fixed_geom.specs.PoseTest.{pose_of}
use Rattle.ray_ranges.specs.Boxes.{IsInside}
use Rattle.ray_ranges.specs.Tables.{Table}
use Rattle.ray_ranges.specs.TileBoxes.{HasTiles}
use Rattle.ray_ranges.specs.declared.tile_box.TileBox.{TileBox}
use Rattle.ray_ranges.proofs.RangeLemmas.{widened_table, widened_keeps, widened_covers}
use Rattle.ray_ranges.proofs.TileLemmas.{has_tiles, inside_small}
use Rattle.ray_ranges.proofs.ranges.Ranges.widen.Goals as goal

pub tiles_of-requires : goal.tiles_of-requires
tiles_of-requires c =
    let p = c.self.inside.projector in
    inside_small p.fields c.args.found.now p.camera.ranges (subst (λ (t : Table). IsInside t.camera c.args.found.now) (sym c.self.view_is) c.requires)

pub widen_list-requires-clause-tiles : goal.widen_list-requires-clause-tiles
widen_list-requires-clause-tiles c =
    let p = c.self.inside.projector in
    let b = c.args.found.now in
    let i = subst (λ (t : Table). IsInside t.camera b) (sym c.self.view_is) c.requires in
    subst (λ (f : TileBox). HasTiles c.self.inside.shape f) (sym c.tiles_of.ensures) (has_tiles p.fields b c.self.inside.shape (inside_small p.fields b p.camera.ranges i) i c.self.invariant.shape)

pub invariant_of-self : goal.invariant_of-self
invariant_of-self c =
    let s = c.self.inside in
    widened_table s.projector.fields (pose_of s.projector.rows) s.shape s.list.items c.widen_list.new.list.items c.self.invariant c.widen_list.ensures.widened

pub returns-clause-kept : goal.returns-clause-kept
returns-clause-kept c =
    let s = c.self.inside in
    λ u v j. widened_keeps s.projector.fields (pose_of s.projector.rows) s.shape s.list.items c.widen_list.new.list.items c.args.self.now u v j c.self.view_is c.widen_list.ensures.widened

pub returns-clause-covers : goal.returns-clause-covers
returns-clause-covers c =
    let p = c.self.inside.projector in
    let b = c.args.found.now in
    let i = subst (λ (t : Table). IsInside t.camera b) (sym c.self.view_is) c.requires in
    let small = inside_small p.fields b p.camera.ranges i in
    λ u v j. widened_covers c.self.inside.shape c.widen_list.new.list.items b c.tiles_of.result u v j c.tiles_of.ensures small
    (subst (λ (f : TileBox). HasTiles c.self.inside.shape f) (sym c.tiles_of.ensures) (has_tiles p.fields b c.self.inside.shape small i c.self.invariant.shape)) c.widen_list.ensures.covers
