use Rattle.std.proofs.Common.{◌≡◌, ℕ, ◌+◌, ◌≤◌, Bool, false, List, [], ◌∷◌, ◌++◌, length, take, get_or, sym, ap, ◌∙◌, subst, length-append}
use mathlib.Core.Option.{some}
use lib.ListN.{get_elem?}
use Rattle.std.specs.Slots.{slots_items, slots_filled}
use Rattle.block_heap.specs.declared.cell.Cell.{Cell}
use Rattle.fusion_core.specs.declared.board.dock.Dock.{Dock}
use Rattle.fusion_core.specs.declared.board.slot.Slot.{Slot}
use Rattle.work_board.specs.Rows.{cells_in, docks_in}
use Rattle.work_board.proofs.Takes.{cell_room, dock_room, cells_more, docks_more, taken_more, left_more}
use Rattle.work_board.proofs.taking.take_slots.Goals as goal

pub put_home-requires-clause-cell_room : goal.put_home-requires-clause-cell_room
put_home-requires-clause-cell_room c =
    let xs : List Slot = slots_items c.args.closed.now.slots in let inv = c.loop-i.invariant in
    let at : get_elem? xs c.loop-i.i ≡ some c.take.result = subst (λ (l : List Slot). get_elem? l c.loop-i.i ≡ some c.take.result) inv.6 c.take.ensures.value in
    cell_room xs c.loop-i.i c.take.result _ _ at inv.2 (subst (λ (n : ℕ). length (cells_in xs) ≤ n) (sym inv.4) c.requires.cell_room)

pub put_home-requires-clause-dock_room : goal.put_home-requires-clause-dock_room
put_home-requires-clause-dock_room c =
    let xs : List Slot = slots_items c.args.closed.now.slots in let inv = c.loop-i.invariant in
    let at : get_elem? xs c.loop-i.i ≡ some c.take.result = subst (λ (l : List Slot). get_elem? l c.loop-i.i ≡ some c.take.result) inv.6 c.take.ensures.value in
    dock_room xs c.loop-i.i c.take.result _ _ at inv.3 (subst (λ (n : ℕ). length (docks_in xs) ≤ n) (sym inv.5) c.requires.dock_room)

pub loop-i-preserved : goal.loop-i-preserved
loop-i-preserved c =
    let xs : List Slot = slots_items c.args.closed.now.slots in let inv = c.loop-i.invariant in let i : ℕ = c.loop-i.i in let x : Slot = c.take.result in
    let at : get_elem? xs i ≡ some x = subst (λ (l : List Slot). get_elem? l i ≡ some x) inv.6 c.take.ensures.value in
    let cells = cells_more xs i x at in let docks = docks_more xs i x at in let o = c.take.ensures.others in let p = c.put_home.ensures in
    let filled : List Bool = slots_filled c.loop-i.closed.slots in (
      p.cells ∙ ap (λ (l : List Cell). l ++ cells_in (x ∷ [])) inv.0 ∙ sym cells,
      p.docks ∙ ap (λ (l : List Dock). l ++ docks_in (x ∷ [])) inv.1 ∙ sym docks,
      p.cell_len ∙ ap (λ (n : ℕ). n + length (cells_in (x ∷ []))) inv.2 ∙ (sym (length-append (cells_in (take i xs)) (cells_in (x ∷ []))) ∙ ap length (sym cells)),
      p.dock_len ∙ ap (λ (n : ℕ). n + length (docks_in (x ∷ []))) inv.3 ∙ (sym (length-append (docks_in (take i xs)) (docks_in (x ∷ []))) ∙ ap length (sym docks)),
      p.cell_capacity ∙ inv.4,
      p.dock_capacity ∙ inv.5,
      o.0 ∙ inv.6,
      o.2 ∙ inv.7,
      o.3 ∙ inv.8,
      (λ k lt. ap (λ (f : List Bool). get_or f k false) o.1 ∙ taken_more filled i inv.9 k lt),
      λ k le lt. ap (λ (f : List Bool). get_or f k false) o.1 ∙ left_more filled i c.args.count inv.10 k le lt,
    )
