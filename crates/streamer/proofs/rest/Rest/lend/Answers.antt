use Rattle.std.proofs.Common.{sym, ap, ◌∙◌}
use Rattle.std.specs.Prelude.{Some}
use Rattle.voxel_block.specs.Blocks.{new_block}
use Rattle.streamer.specs.Owners.{voxels_of}
use Rattle.streamer.specs.Places.{Places, cell_of, in_heap}
use Rattle.streamer.specs.Seen.{seen}
use Rattle.streamer.proofs.Owning.{owner_is}
use Rattle.streamer.proofs.Ways.{block_missing, cell_below}
use Rattle.streamer.proofs.rest.Rest.lend.Goals as goal

pub lend-requires : goal.lend-requires
lend-requires c = cell_below (seen c.self.inside) c.args.key c.in_ok-cell.cell c.self.invariant c.in_ok-cell.ensures

pub returns-in_err-block-clause-value : goal.returns-in_err-block-clause-value
returns-in_err-block-clause-value c = absurd (block_missing (seen c.self.inside) c.args.key c.in_ok-cell.cell c.self.invariant c.in_ok-cell.ensures c.in_err-block.ensures.value)

pub returns-clause-value : goal.returns-clause-value
returns-clause-value c =
    let h = c.self.inside.heap in
    let n = c.in_ok-cell.cell in
    ap Some (ap (λ o. voxels_of o new_block) (c.in_ok-block.ensures.value ∙ sym (owner_is h n)))
    ∙ ap (in_heap h) c.in_ok-cell.ensures
    ∙ ap (λ (p : Places). in_heap p.heap (cell_of p.table c.args.key)) c.self.view_is
