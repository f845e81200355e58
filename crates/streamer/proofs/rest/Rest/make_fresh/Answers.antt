use Rattle.std.proofs.Common.{◌≡◌, ◌<◌, ◌||◌, length, refl, sym, ap, subst, ◌∙◌}
use Rattle.std.specs.FinMap.{contains_key, insert}
use Rattle.voxel_block.specs.Blocks.{new_block}
use Rattle.voxel_block.specs.Keys.{same_key}
use Rattle.spatial_hash.specs.Contents.{contents}
use Rattle.streamer.specs.Places.{Places, blocks_of}
use Rattle.streamer.specs.Seen.{seen}
use Rattle.streamer.proofs.Blocks.{not_resident, not_stored}
use Rattle.streamer.proofs.Keyed.{none_of, when_ok}
use Rattle.voxel_block.proofs.DistinctKeys.{has_put}
use Rattle.streamer.proofs.Moves.{IsSettledIn, entered_blocks, entered_placed}
use Rattle.streamer.proofs.Ways.{makes}
use Rattle.streamer.proofs.rest.Rest.make_fresh.Goals as goal
use Rattle.streamer.proofs.rest.Rest.make_fresh.Goals.{Else-is_err}

pub insert-requires : goal.insert-requires
insert-requires c = none_of _ (not_resident (seen c.self.inside) c.args.key (ap (λ q. contains_key (blocks_of q) c.args.key) c.self.view_is ∙ c.requires.unknown))

-- the places after the steps
abbrev after : Else-is_err → Places
after c = seen (record { hash = c.insert.new.self; heap = c.draw.new.self; store = c.self.inside.store })

put : (c : Else-is_err) → contents c.insert.new.self ≡ insert (contents c.self.inside.hash) c.args.key c.in-Some.cell
put c = when_ok (contents c.insert.new.self ≡ insert (contents c.self.inside.hash) c.args.key c.in-Some.cell) c.insert.result (sym c.is_err.ensures.value ∙ c.if-is_err.false) c.insert.ensures.map

made : (c : Else-is_err) → IsSettledIn (seen c.self.inside) (after c) c.args.key c.in-Some.cell new_block
made c =
    let unknown = ap (λ q. contains_key (blocks_of q) c.args.key) c.self.view_is ∙ c.requires.unknown in
    makes (seen c.self.inside) (after c) c.args.key c.in-Some.cell (not_resident (seen c.self.inside) c.args.key unknown) (not_stored (seen c.self.inside) c.args.key unknown)
    (put c) c.insert.ensures.size.nodes c.in-Some.ensures.free (subst (λ (p : Places). 0 < length p.heap.free) (sym c.self.view_is) c.requires.free) c.in-Some.ensures.after refl

pub invariant_of-self : goal.invariant_of-self
invariant_of-self c = entered_placed (seen c.self.inside) (after c) c.args.key c.in-Some.cell new_block c.self.invariant (made c)

pub returns-clause-placed : goal.returns-clause-placed
returns-clause-placed c = invariant_of-self c

pub returns-clause-blocks : goal.returns-clause-blocks
returns-clause-blocks c = entered_blocks (seen c.self.inside) (after c) c.args.key c.in-Some.cell new_block c.self.invariant (made c) ∙ ap (λ q. insert (blocks_of q) c.args.key new_block) c.self.view_is

pub returns-clause-others : goal.returns-clause-others
returns-clause-others c = λ b. ap (λ m. contains_key m b) (put c) ∙ has_put (contents c.self.inside.hash) c.args.key b c.in-Some.cell ∙ ap (λ (q : Places). same_key b c.args.key || contains_key (contents q.table) b) c.self.view_is
