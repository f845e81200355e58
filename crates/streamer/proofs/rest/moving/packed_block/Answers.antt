use Rattle.std.proofs.Common.{◌≡◌, sym, ap, subst, ◌∙◌}
use Rattle.voxel_block.specs.Blocks.{new_block}
use Rattle.voxel_block.specs.Packing.{IsBlock, packed as packed_form}
use Rattle.streamer.specs.Owners.{block_in, voxels_of}
use Rattle.streamer.proofs.Owning.{not_owned, owner_is}
use Rattle.streamer.proofs.rest.moving.packed_block.Goals as goal
use Rattle.streamer.proofs.rest.moving.packed_block.Goals.{After-pack_into}

pub unreachable-requires : goal.unreachable-requires
unreachable-requires c = not_owned c.args.heap.now c.args.cell c.requires.owned c.in_default.ensures.value

same : (c : After-pack_into) → c.in-Some.block.now ≡ block_in c.args.heap.now c.args.cell
same c = ap (λ o. voxels_of o new_block) (c.in-Some.ensures.value ∙ sym (owner_is c.args.heap.now c.args.cell))

pub returns-clause-packed : goal.returns-clause-packed
returns-clause-packed c = c.pack_into.ensures.value ∙ ap (packed_form c.args.key) (same c)

pub returns-clause-block : goal.returns-clause-block
returns-clause-block c = subst IsBlock (same c) c.pack_into.ensures.block
