use Rattle.std.proofs.Common.{rules, ◌≡◌, ℕ, ◌+◌, ◌≤◌, length, replicate, refl, sym, ap, ◌∙◌, subst}
use Rattle.std.specs.Vec.{vec_capacity}
use Rattle.atomic_table.specs.Table.{opening}
use Rattle.fusion_core.specs.Jobs.{Start}
use Rattle.fusion_core.specs.Machines.{start_of}
use Rattle.work_board.specs.Rule.{Shows, first_view}
use Rattle.work_board.proofs.Given.{back}
use Rattle.work_board.proofs.Opening.{opens}
use Rattle.work_board.proofs.board.Board.make.Goals as goal

pub new-requires : goal.new-requires
new-requires c =
    let st : Start = start_of c.args.jobs.items c.args.cells.items c.args.docks.items c.args.free.items c.args.work.now in
    let key-is : start_of c.of.result.value.items c.of-2.result.value.items c.of-3.result.value.items c.of-4.result.value.items c.of-5.result.value ≡ st =
    λ i. start_of (c.of.ensures i).items (c.of-2.ensures i).items (c.of-3.ensures i).items (c.of-4.ensures i).items (c.of-5.ensures i) in
    let words-are : c.as_slice.result.now ≡ replicate (length st.jobs + 2) 0 = c.as_slice.ensures.value ∙ (let w : c.in-Ok.words.items ≡ replicate (c.len.result + 2) 0 = search rules in w)
    ∙ ap (λ (k : ℕ). replicate (k + 2) 0) (let e : c.len.result ≡ length c.args.jobs.items = search rules in e) in
    subst (λ (z : Start). Shows z c.args.seats (opening c.as_slice.result.now c.move_into_row.new.slots.items (first_view z c.args.seats))) (sym key-is)
    (opens st c.args.seats c.as_slice.result.now c.move_into_row.new.slots.items c.requires.ready c.requires.seats.0 c.requires.seats.1 words-are c.move_into_row.ensures.slots)

pub out_of_row-requires-clause-cell_room : goal.out_of_row-requires-clause-cell_room
out_of_row-requires-clause-cell_room c =
    let same = back c.args.cells.items c.args.docks.items c.in-Err.field-0.slots.items c.move_into_row.new.slots.items (search rules) c.move_into_row.ensures.slots in
    let room : length c.args.cells.items ≤ vec_capacity c.move_into_row.new.cells = subst (λ (n : ℕ). length c.args.cells.items ≤ n) (sym c.move_into_row.ensures.cell_room) (search rules) in
    subst (λ (n : ℕ). n ≤ vec_capacity c.move_into_row.new.cells) (sym (ap length same.0)) room

pub out_of_row-requires-clause-dock_room : goal.out_of_row-requires-clause-dock_room
out_of_row-requires-clause-dock_room c =
    let same = back c.args.cells.items c.args.docks.items c.in-Err.field-0.slots.items c.move_into_row.new.slots.items (search rules) c.move_into_row.ensures.slots in
    let room : length c.args.docks.items ≤ vec_capacity c.move_into_row.new.docks = subst (λ (n : ℕ). length c.args.docks.items ≤ n) (sym c.move_into_row.ensures.dock_room) (search rules) in
    subst (λ (n : ℕ). n ≤ vec_capacity c.move_into_row.new.docks) (sym (ap length same.1)) room

pub returns-clause-refused : goal.returns-clause-refused
returns-clause-refused c =
    let same = back c.args.cells.items c.args.docks.items c.in-Err.field-0.slots.items c.move_into_row.new.slots.items (search rules) c.move_into_row.ensures.slots in
    (refl, c.out_of_row.ensures.cells ∙ same.0, c.out_of_row.ensures.docks ∙ same.1, refl)
