use Rattle.std.proofs.Common.{◌≡◌, ◌∙◌, ◌<◌, false, length, refl, ap, sym, arith}
use Rattle.std.specs.Prelude.{Some, slice_get}
use Rattle.std.proofs.lemmas.Option.{slice_get_read}
use Rattle.block_heap.specs.Cells.{Cells, given_up, has_free, is_free_at}
use Rattle.block_heap.proofs.CellEdits.{given_up_is, is_free-freed}
use Rattle.block_heap.proofs.FreeLists.{freed_list, has_room}
use Rattle.block_heap.proofs.heap.Heap.give_up.Goals as goal

pub push_reserved-requires : goal.push_reserved-requires
push_reserved-requires c =
    let cells = c.self.inside.cells in
    let below : c.args.cell < length cells.items = omega (arith, c.requires, ap (λ (h : Cells). length h.cells) c.self.view_is) in
    let there : slice_get cells.items c.args.cell ≡ Some c.index.result.now = slice_get_read cells.items (length cells.items) c.args.cell c.index.result.now refl below c.index.ensures in
    let owned : is_free_at cells.items c.args.cell ≡ false = ap has_free there ∙ sym c.is_free.ensures ∙ c.if-is_free.false in
    let room = has_room cells.items c.self.inside.free.items c.args.cell c.self.invariant.0 below owned in
    let most = c.self.invariant.2 in
    let count = cells.ok.0 in
    let count_free = c.self.inside.free.ok.0 in
    omega arith

pub returns-clause-after : goal.returns-clause-after
returns-clause-after c =
    let cells = c.self.inside.cells in
    let below : c.args.cell < length cells.items = omega (arith, c.requires, ap (λ (h : Cells). length h.cells) c.self.view_is) in
    let there : slice_get cells.items c.args.cell ≡ Some c.index.result.now = slice_get_read cells.items (length cells.items) c.args.cell c.index.result.now refl below c.index.ensures in
    let before : Cells = record { cells = cells.items; free = c.self.inside.free.items } in
    let changed = c.set_owner.ensures.cells c.index.result.now there in
    let after = given_up_is before c.args.cell c.index.result.now there (sym c.is_free.ensures ∙ c.if-is_free.false) in
    (λ i. record { cells = changed i; free = c.push_reserved.ensures.items i }) ∙ sym after ∙ ap (λ h. given_up h c.args.cell) c.self.view_is

pub returns-clause-list : goal.returns-clause-list
returns-clause-list c =
    let cells = c.self.inside.cells in
    let below : c.args.cell < length cells.items = omega (arith, c.requires, ap (λ (h : Cells). length h.cells) c.self.view_is) in
    let there : slice_get cells.items c.args.cell ≡ Some c.index.result.now = slice_get_read cells.items (length cells.items) c.args.cell c.index.result.now refl below c.index.ensures in
    let owned : is_free_at cells.items c.args.cell ≡ false = ap has_free there ∙ sym c.is_free.ensures ∙ c.if-is_free.false in
    rw (c.set_owner.ensures.cells c.index.result.now there, c.push_reserved.ensures.items) (freed_list _ _ _ _ c.self.invariant.0 below owned (is_free-freed c.index.result.now))

pub invariant_of-self : goal.invariant_of-self
invariant_of-self c =
    let most = c.self.invariant.1 in
    let room = c.self.invariant.2 in
    (returns-clause-list c, omega (arith, c.set_owner.ensures.len), omega (arith, c.set_owner.ensures.len, c.push_reserved.ensures.capacity))
