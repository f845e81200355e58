use Rattle.std.proofs.Common.{◌≡◌, ℕ, List, [], subst, arith}
use Rattle.std.specs.List.{range_with_len, flat_map}
use Rattle.voxel_block.specs.declared.key.BlockKey.{BlockKey}
use Rattle.band_walk.specs.BandViews.{view_of_band}
use Rattle.band_walk.specs.Bands.{pixel_blocks}
use Rattle.band_walk.specs.Memos.{HasAdded}
use Rattle.band_walk.proofs.MemoLemmas.{grown_more}
use Rattle.band_walk.proofs.PixelLemmas.{only_new, pixel_more}
use Rattle.band_walk.proofs.band.Band.new_keys.Goals as goal

pub returns-in_err-add_pixel-clause-noted : goal.returns-in_err-add_pixel-clause-noted
returns-in_err-add_pixel-clause-noted c =
    (grown_more c.args.memo.now c.loop-u.memo c.add_pixel.new.memo [] c.loop-u.keys.items c.add_pixel.new.keys.items c.loop-u.invariant.grown c.in_err-add_pixel.ensures.grown).noted

pub loop-u-preserved : goal.loop-u-preserved
loop-u-preserved c =
    let f : ℕ → List BlockKey = λ u. pixel_blocks (view_of_band c.args.self.now) u c.args.v in
    pixel_more f c.loop-u.u c.args.memo.now c.loop-u.memo c.add_pixel.new.memo [] c.loop-u.keys.items c.add_pixel.new.keys.items c.loop-u.invariant c.in_ok-add_pixel.ensures.added

pub returns-clause-found : goal.returns-clause-found
returns-clause-found c =
    let w = view_of_band c.args.self.now in
    let f : ℕ → List BlockKey = λ u. pixel_blocks w u c.args.v in
    let end : c.loop-u.u ≡ w.depths.width = omega (arith, c.loop-u-test.false, c.loop-u.auto.u-end, c.width-u-end.ensures) in
    (subst (λ u. HasAdded (flat_map f (range_with_len 0 u)) c.args.memo.now [] c.loop-u.memo c.loop-u.keys.items) end c.loop-u.invariant).found

pub returns-clause-only : goal.returns-clause-only
returns-clause-only c =
    let w = view_of_band c.args.self.now in
    let f : ℕ → List BlockKey = λ u. pixel_blocks w u c.args.v in
    let end : c.loop-u.u ≡ w.depths.width = omega (arith, c.loop-u-test.false, c.loop-u.auto.u-end, c.width-u-end.ensures) in
    let all = subst (λ u. HasAdded (flat_map f (range_with_len 0 u)) c.args.memo.now [] c.loop-u.memo c.loop-u.keys.items) end c.loop-u.invariant in
    λ b k. only_new (flat_map f (range_with_len 0 w.depths.width)) b (all.only b k)
