use Rattle.std.proofs.Common.{◌≡◌, ◌<◌, length, sym, ap, subst, ◌∙◌}
use Rattle.std.specs.Prelude.{Some}
use Rattle.std.specs.FinMap.{insert}
use Rattle.voxel_block.specs.Packing.{IsBlock, packed}
use Rattle.chunk_store.specs.Store.{Stored}
use Rattle.streamer.specs.Owners.{block_in}
use Rattle.streamer.specs.Places.{IsPlaced, Places, cell_of}
use Rattle.streamer.specs.Seen.{seen}
use Rattle.streamer.proofs.Moves.{IsLeft, IsVacated, left_blocks, left_placed}
use Rattle.streamer.proofs.Ways.{cell_below, leaves}
use Rattle.streamer.proofs.rest.Rest.leave.Goals as goal
use Rattle.streamer.proofs.rest.Rest.leave.Goals.{After-put_reserved}

pub packed_block-packed-requires-clause-cell : goal.packed_block-packed-requires-clause-cell
packed_block-packed-requires-clause-cell c = cell_below (seen c.self.inside) c.args.key c.in-Some.cell c.self.invariant c.in-Some.ensures

pub remove_at-requires-clause-cell : goal.remove_at-requires-clause-cell
remove_at-requires-clause-cell c = subst (λ (p : Places). c.in-Some.cell < length p.heap.cells) c.self.view_is (cell_below (seen c.self.inside) c.args.key c.in-Some.cell c.self.invariant c.in-Some.ensures)

placed : (c : After-put_reserved) → IsPlaced c.args.self.now
placed c = subst IsPlaced c.self.view_is c.self.invariant

cell : (c : After-put_reserved) → cell_of c.args.self.now.table c.args.key ≡ Some c.in-Some.cell
cell c = sym (c.in-Some.ensures ∙ ap (λ (p : Places). cell_of p.table c.args.key) c.self.view_is)

removed : (c : After-put_reserved) → IsVacated c.args.self.now c.remove_at.new.self c.args.key c.in-Some.cell
removed c =
    let x = c.remove_at.ensures in
    let owner = (placed c).found c.args.key c.in-Some.cell (cell c) in record {
      cell = cell c;
      table = x.table c.args.key (block_in c.args.self.now.heap c.in-Some.cell) owner;
      nodes = x.size.nodes;
      heap = record { here = x.vacant; others = x.others; count = x.cells };
      free = x.free;
    }

-- the places after the steps
abbrev after : After-put_reserved → Places
after c = seen (record { hash = c.self-2.inside.hash; heap = c.self-2.inside.heap; store = c.put_reserved.new.self })

moved : (c : After-put_reserved) → IsLeft c.args.self.now (after c) c.args.key c.in-Some.cell
moved c =
    let n = c.in-Some.cell in
    let form = c.packed_block-packed.ensures in
    leaves c.args.self.now c.remove_at.new.self (after c) c.args.key n c.packed_block-packed.result (removed c) (ap (λ (s : Stored). s.contents) c.remove_at.ensures.store)
    (form.packed ∙ ap (λ (p : Places). packed c.args.key (block_in p.heap n)) c.self.view_is) form.key (subst (λ (p : Places). IsBlock (block_in p.heap n)) c.self.view_is form.block)
    (ap (λ (p : Places). p.table) c.self-2.view_is) (ap (λ (p : Places). p.heap) c.self-2.view_is)
    (ap (λ (s : Stored). s.contents) c.put_reserved.ensures ∙ ap (λ (p : Places). insert p.store.contents c.args.key c.packed_block-packed.result) c.self-2.view_is)

pub invariant_of-self : goal.invariant_of-self
invariant_of-self c = left_placed c.args.self.now (after c) c.args.key c.in-Some.cell (placed c) (moved c)

pub returns-clause-placed : goal.returns-clause-placed
returns-clause-placed c = invariant_of-self c

pub returns-clause-blocks : goal.returns-clause-blocks
returns-clause-blocks c = left_blocks c.args.self.now (after c) c.args.key c.in-Some.cell (placed c) (moved c)
