use Rattle.std.proofs.Common.{◌≡◌, ℕ, ◌∙◌, ap, ◌-◌, ◌++◌, List, arith}
use Rattle.std.specs.List.{range_with_len, flat_map}
use Rattle.voxel_block.specs.declared.key.BlockKey.{BlockKey}
use Rattle.band_walk.specs.BandViews.{view_of_band}
use Rattle.band_walk.specs.Bands.{pixel_blocks}
use Rattle.band_walk.proofs.blocks.RowBlocks.of.Goals as goal

pub returns-clause-remaining : goal.returns-clause-remaining
returns-clause-remaining c =
    let b = c.args.band.now in
    let w = b.frame.now.width in
    let all : w - 0 ≡ w = omega arith in
    let pixels : ℕ → List BlockKey = λ k. pixel_blocks (view_of_band b) k c.args.v in
    ap (λ (bs : List BlockKey). bs ++ flat_map pixels (range_with_len 0 (w - 0))) c.no_samples.ensures.remaining ∙ ap (λ n. flat_map pixels (range_with_len 0 n)) all
