use Rattle.std.proofs.Common.{◌≡◌, true, sym, ap, subst, ◌∙◌}
use Rattle.std.specs.Prelude.{List, option_map}
use Rattle.std.specs.FinMap.{contains_key, insert}
use Rattle.std.specs.Option.{ghost_name_of}
use borrow.Follows.Closed.{read_of}
use Rattle.voxel_block.specs.declared.voxel.Voxel.{Voxel}
use Rattle.spatial_hash.specs.Contents.{contents}
use Rattle.streamer.specs.Lending.{KeepsPlaces, with_block_of}
use Rattle.streamer.specs.Places.{IsPlaced, Places, blocks_of, cell_of, in_heap}
use Rattle.streamer.specs.Seen.{seen}
use Rattle.streamer.proofs.Owning.{owner_is}
use Rattle.streamer.proofs.Rewriting.{blocks_with_of, keeps_places, named_is, placed_cell, placed_of}
use Rattle.streamer.proofs.Ways.{cell_below}
use Rattle.streamer.proofs.rest.Rest.lend_mut.Goals as goal

pub lend_mut-requires : goal.lend_mut-requires
lend_mut-requires c = cell_below (seen c.self.inside) c.args.key c.in_ok-cell.cell c.self.invariant c.in_ok-cell.ensures

pub invariant_of-self-lent : goal.invariant_of-self-lent
invariant_of-self-lent c = λ _. ((λ w. placed_cell (seen c.self.inside) c.args.key c.in_ok-cell.cell w c.self.invariant (sym c.in_ok-cell.ensures)), c.self.invariant)

pub returns : goal.returns
returns c =
    let p = seen c.self.inside in
    let n = c.in_ok-cell.cell in
    let written = λ (w : List Voxel). named_is p c.args.key n w (sym c.in_ok-cell.ensures) ∙ ap (λ q. with_block_of q c.args.key w) c.self.view_is in (
      (λ t. read_of (ghost_name_of c.lend_mut.result) (λ (w : List Voxel). written w t) (c.self.view_is t)),
      record {
        writes_back = tt;
        value = c.lend_mut.ensures.value ∙ ap (option_map (λ o. o.1)) (sym (owner_is c.self.inside.heap n) ∙ c.self.invariant.found c.args.key n (sym c.in_ok-cell.ensures))
            ∙ ap (in_heap c.self.inside.heap) c.in_ok-cell.ensures ∙ ap (λ (q : Places). in_heap q.heap (cell_of q.table c.args.key)) c.self.view_is;
        blocks = subst (λ (q : Places). (w : List Voxel) → contains_key (contents q.table) c.args.key ≡ true → blocks_of (with_block_of q c.args.key w) ≡ insert (blocks_of q) c.args.key w) c.self.view_is (λ w. blocks_with_of p c.args.key w c.self.invariant);
        places = subst (λ q. (w : List Voxel) → KeepsPlaces q (with_block_of q c.args.key w)) c.self.view_is (λ w. keeps_places p c.args.key w c.self.invariant);
        placed = subst (λ q. (w : List Voxel) → IsPlaced (with_block_of q c.args.key w)) c.self.view_is (λ w. placed_of p c.args.key w c.self.invariant);
      },
    )
