use Rattle.std.proofs.Common.{◌≡◌, ◌<◌, ◌||◌, length, sym, ap, subst, ◌∙◌}
use Rattle.std.specs.Prelude.{is_some}
use Rattle.std.specs.FinMap.{contains_key, insert}
use Rattle.voxel_block.specs.Keys.{same_key}
use Rattle.voxel_block.specs.Packing.{voxels_in}
use Rattle.spatial_hash.specs.Contents.{contents}
use Rattle.block_heap.specs.HeapLending.{with_block_at}
use Rattle.chunk_store.specs.Store.{Stored}
use Rattle.streamer.specs.Owners.{owner_at}
use Rattle.streamer.specs.Places.{Places, blocks_of}
use Rattle.streamer.specs.Seen.{seen}
use Rattle.voxel_block.proofs.DistinctKeys.{has_put}
use Rattle.streamer.proofs.Keyed.{when_ok}
use Rattle.streamer.proofs.Moves.{IsSettledIn, entered_blocks, entered_placed, insert_same}
use Rattle.streamer.proofs.Ways.{enters, owned_drawn, unpacks}
use Rattle.streamer.proofs.rest.Rest.enter.Goals as goal
use Rattle.streamer.proofs.rest.Rest.enter.Goals.{After-drop-packed-inside}

pub unpack_to-requires-clause-owned : goal.unpack_to-requires-clause-owned
unpack_to-requires-clause-owned c = ap (λ h. is_some (owner_at h c.in-Some-draw.cell)) c.in-Some-draw.ensures.after ∙ owned_drawn c.self.inside.heap c.args.key c.in-Some-draw.cell c.in-Some-draw.ensures.free

pub unpack_to-requires-clause-form : goal.unpack_to-requires-clause-form
unpack_to-requires-clause-form c =
    let form = unpacks (seen c.self.inside) c.args.key c.in-Some.packed c.self.invariant c.in-Some.ensures.value in
    (c.args.key, record { key = form.key; block = form.block; form = form.form })

-- the places after the steps
abbrev after : After-drop-packed-inside → Places
after c = seen (record { hash = c.insert.new.self; heap = c.unpack_to.new.heap; store = c.take.new.self })

put : (c : After-drop-packed-inside) → contents c.insert.new.self ≡ insert (contents c.self.inside.hash) c.args.key c.in-Some-draw.cell
put c = when_ok (contents c.insert.new.self ≡ insert (contents c.self.inside.hash) c.args.key c.in-Some-draw.cell) c.insert.result (sym c.is_err.ensures.value ∙ c.if-is_err.false) c.insert.ensures.map

moved : (c : After-drop-packed-inside) → IsSettledIn (seen c.self.inside) (after c) c.args.key c.in-Some-draw.cell (voxels_in c.in-Some.packed)
moved c = enters (seen c.self.inside) (after c) c.args.key c.in-Some-draw.cell (voxels_in c.in-Some.packed) c.self.invariant (ap is_some (sym c.in-Some.ensures.value))
    (put c) c.insert.ensures.size.nodes c.in-Some-draw.ensures.free (subst (λ (p : Places). 0 < length p.heap.free) (sym c.self.view_is) c.requires.free)
    (c.unpack_to.ensures ∙ ap (λ h. with_block_at h c.in-Some-draw.cell (voxels_in c.in-Some.packed)) c.in-Some-draw.ensures.after) (ap (λ (s : Stored). s.contents) c.in-Some.ensures.store)

pub invariant_of-self : goal.invariant_of-self
invariant_of-self c = entered_placed (seen c.self.inside) (after c) c.args.key c.in-Some-draw.cell (voxels_in c.in-Some.packed) c.self.invariant (moved c)

pub returns-clause-placed : goal.returns-clause-placed
returns-clause-placed c = invariant_of-self c

pub returns-clause-blocks : goal.returns-clause-blocks
returns-clause-blocks c =
    entered_blocks (seen c.self.inside) (after c) c.args.key c.in-Some-draw.cell (voxels_in c.in-Some.packed) c.self.invariant (moved c)
    ∙ insert_same (blocks_of (seen c.self.inside)) c.args.key (voxels_in c.in-Some.packed) (unpacks (seen c.self.inside) c.args.key c.in-Some.packed c.self.invariant c.in-Some.ensures.value).told ∙ ap blocks_of c.self.view_is

pub returns-clause-others : goal.returns-clause-others
returns-clause-others c = λ b. ap (λ m. contains_key m b) (put c) ∙ has_put (contents c.self.inside.hash) c.args.key b c.in-Some-draw.cell ∙ ap (λ (q : Places). same_key b c.args.key || contains_key (contents q.table) b) c.self.view_is
