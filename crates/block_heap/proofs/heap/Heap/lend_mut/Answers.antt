use Rattle.std.proofs.Common.{◌≡◌, ◌∙◌, ◌<◌, length, refl, ap, sym, subst, arith}
use Rattle.std.specs.Prelude.{List, Some, not, slice_get, option_and_then, option_map}
use Rattle.std.specs.Option.{ghost_name_of}
use borrow.Follows.Closed.{read_of}
use Rattle.std.proofs.lemmas.Option.{slice_get_read}
use Rattle.voxel_block.specs.declared.voxel.Voxel.{Voxel}
use Rattle.block_heap.specs.Cells.{Cells, IsFreeList, content, has_free, is_free, is_free_at}
use Rattle.block_heap.specs.HeapLending.{with_block_at}
use Rattle.block_heap.specs.Lending.{with_block}
use Rattle.block_heap.proofs.CellEdits.{is_free-with_block, lent_where_owned, set_same, with_block_at_is}
use Rattle.block_heap.proofs.FreeLists.{kept_list}
use Rattle.block_heap.proofs.heap.Heap.lend_mut.Goals as goal

pub invariant_of-self-lent : goal.invariant_of-self-lent
invariant_of-self-lent c = λ _.
    let cells = c.self.inside.cells in
    let x = c.index_mut.result.now in
    let below : c.args.cell < length cells.items = omega (arith, c.requires, ap (λ (h : Cells). length h.cells) c.self.view_is) in
    let there : slice_get cells.items c.args.cell ≡ Some x = slice_get_read cells.items (length cells.items) c.args.cell x refl below c.index_mut.ensures.value in
    let same : is_free_at cells.items c.args.cell ≡ is_free x = ap has_free there in (
      (λ w. (kept_list cells.items c.self.inside.free.items c.args.cell (with_block x w) c.self.invariant.0 below (is_free-with_block x w ∙ sym same), c.self.invariant.1, c.self.invariant.2)),
      (kept_list cells.items c.self.inside.free.items c.args.cell x c.self.invariant.0 below (sym same), c.self.invariant.1, c.self.invariant.2),
    )

pub returns : goal.returns
returns c =
    let cells = c.self.inside.cells in
    let x = c.index_mut.result.now in
    let h : Cells = record { cells = cells.items; free = c.self.inside.free.items } in
    let below : c.args.cell < length cells.items = omega (arith, c.requires, ap (λ (h : Cells). length h.cells) c.self.view_is) in
    let there : slice_get cells.items c.args.cell ≡ Some x = slice_get_read cells.items (length cells.items) c.args.cell x refl below c.index_mut.ensures.value in
    let written = λ (w : List Voxel). with_block_at_is h c.args.cell x w there ∙ ap (λ (h : Cells). with_block_at h c.args.cell w) c.self.view_is in
    let left = (λ i. record { cells = set_same cells.items c.args.cell x there i; free = c.self.inside.free.items }) ∙ c.self.view_is in (
      (λ t. read_of (ghost_name_of c.block_mut.result) (λ (w : List Voxel). written w t) (left t)),
      record {
        writes_back = tt;
        value = c.block_mut.ensures.value ∙ ap (λ o. option_map (λ p. p.1) (option_and_then content o)) (sym there) ∙ ap (λ (h : Cells). option_map (λ p. p.1) (option_and_then content (slice_get h.cells c.args.cell))) c.self.view_is;
        owned = lent_where_owned (λ b. b.now) (λ p. p.1) c.block_mut.result x c.block_mut.ensures.value ∙ ap (λ o. not (has_free o)) (sym there) ∙ ap (λ (h : Cells). not (is_free_at h.cells c.args.cell)) c.self.view_is;
        list = subst (λ (h : Cells). IsFreeList h.cells h.free) c.self.view_is c.self.invariant.0;
      },
    )
