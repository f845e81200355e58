use Rattle.std.proofs.Common.{◌∙◌, ap, sym, ℕ, ◌+◌, ◌++◌, List, arith}
use Rattle.voxel_block.specs.declared.key.BlockKey.{BlockKey}
use Rattle.band_walk.specs.BandViews.{view_of_band}
use Rattle.band_walk.specs.Bands.{pixel_blocks}
use Rattle.band_walk.specs.Remaining.{row_blocks_from}
use Rattle.band_walk.proofs.WalkLemmas.{flat_map_next}
use Rattle.band_walk.proofs.blocks.RowBlocks.next_block.Goals as goal

pub loop-key-preserved : goal.loop-key-preserved
loop-key-preserved c =
    let b = c.loop-key.self in
    let u = b.u in
    let w = b.band.now.frame.now.width in
    let before = c.loop-key.invariant.in_order in
    let pixels : ℕ → List BlockKey = λ k. pixel_blocks (view_of_band b.band.now) k b.v in
    record {
      in_order = record { row = before.row; samples = c.samples-self.ensures.samples; u = omega (arith, c.if-self-width.false, c.width.ensures) };
      remaining = ap (λ (bs : List BlockKey). bs ++ row_blocks_from b (u + 1)) c.samples-self.ensures.remaining ∙ sym (flat_map_next pixels u w (omega (arith, c.if-self-width.false, c.width.ensures)))
          ∙ sym (ap (λ (bs : List BlockKey). bs ++ row_blocks_from b u) c.in_default.ensures.gives.0) ∙ c.loop-key.invariant.remaining;
    }
