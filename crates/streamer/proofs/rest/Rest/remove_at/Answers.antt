use Rattle.std.proofs.Common.{◌≡◌, List, refl, sym, ap, ◌∙◌}
use Rattle.std.specs.Prelude.{Some, is_some}
use Rattle.std.specs.FinMap.{remove}
use Rattle.voxel_block.specs.declared.key.BlockKey.{BlockKey}
use Rattle.voxel_block.specs.declared.voxel.Voxel.{Voxel}
use Rattle.spatial_hash.specs.Contents.{contents}
use Rattle.streamer.specs.Owners.{owner_at}
use Rattle.streamer.specs.Places.{Places, blocks_of}
use Rattle.streamer.specs.Seen.{seen}
use Rattle.streamer.proofs.Keyed.{the_same}
use Rattle.streamer.proofs.Moves.{IsVacated, removed_blocks, removed_placed}
use Rattle.streamer.proofs.Owning.{not_owned, owner_is}
use Rattle.streamer.proofs.Ways.{vacates}
use Rattle.streamer.proofs.rest.Rest.remove_at.Goals as goal
use Rattle.streamer.proofs.rest.Rest.remove_at.Goals.{After-remove}

pub unreachable-requires : goal.unreachable-requires
unreachable-requires c = not_owned c.self.inside.heap c.args.cell (ap (λ (p : Places). is_some (owner_at p.heap c.args.cell)) c.self.view_is ∙ c.requires.owned) c.in_default.ensures.value

-- the places after the steps
abbrev after : After-remove → Places
after c = seen (record { hash = c.remove.new.self; heap = c.give_up.new.self; store = c.self.inside.store })

owner : (c : After-remove) → owner_at c.self.inside.heap c.args.cell ≡ Some (c.in-Some.key, c.in-Some.field-0-1.now)
owner c = owner_is c.self.inside.heap c.args.cell ∙ sym c.in-Some.ensures.value

moved : (c : After-remove) → IsVacated (seen c.self.inside) (after c) c.in-Some.key c.args.cell
moved c = vacates (seen c.self.inside) (after c) c.in-Some.key c.in-Some.field-0-1.now c.args.cell c.remove.result c.self.invariant (owner c)
    c.remove.ensures.map c.remove.ensures.had c.remove.ensures.size.nodes c.give_up.ensures.after

-- the owner that a caller knows is this one
is_key : (c : After-remove) (b : BlockKey) (v : List Voxel) → owner_at c.args.self.now.heap c.args.cell ≡ Some (b, v) → c.in-Some.key ≡ b
is_key c b v e = ap (λ o. o.0) (the_same (c.in-Some.key, c.in-Some.field-0-1.now) (b, v) (sym (owner c) ∙ ap (λ (p : Places). owner_at p.heap c.args.cell) c.self.view_is ∙ e))

pub invariant_of-self : goal.invariant_of-self
invariant_of-self c = removed_placed (seen c.self.inside) (after c) c.in-Some.key c.args.cell c.self.invariant (moved c) refl

pub returns-clause-placed : goal.returns-clause-placed
returns-clause-placed c = invariant_of-self c

pub returns-clause-blocks : goal.returns-clause-blocks
returns-clause-blocks c = λ b v e.
    removed_blocks (seen c.self.inside) (after c) c.in-Some.key c.args.cell c.self.invariant (moved c) refl
    ∙ ap (λ p. remove (blocks_of p) c.in-Some.key) c.self.view_is ∙ ap (remove (blocks_of c.args.self.now)) (is_key c b v e)

pub returns-clause-table : goal.returns-clause-table
returns-clause-table c = λ b v e.
    (moved c).table ∙ ap (λ (p : Places). remove (contents p.table) c.in-Some.key) c.self.view_is ∙ ap (remove (contents c.args.self.now.table)) (is_key c b v e)

pub returns-clause-vacant : goal.returns-clause-vacant
returns-clause-vacant c = (moved c).heap.here

pub returns-clause-others : goal.returns-clause-others
returns-clause-others c = λ n other. (moved c).heap.others n other ∙ ap (λ (p : Places). owner_at p.heap n) c.self.view_is
