use Rattle.std.proofs.Common.{rules, ◌≡◌, ℕ, ◌+◌, ◌-◌, ◌≤◌, ◌++◌, List, length, take, drop, reverse, sym, ap, ◌∙◌, arith, subst}
use mathlib.Core.Option.{some}
use lib.ListN.{get_elem?}
use Rattle.std.specs.Prelude.{vec_len, IsSome}
use Rattle.std.specs.Vec.{vec_capacity}
use Rattle.std.specs.Slots.{slots_items}
use Rattle.fusion_core.specs.declared.board.slot.Slot.{Slot}
use Rattle.fusion_core.specs.Counts.{count_of}
use Rattle.fusion_core.specs.Jobs.{Start}
use Rattle.work_board.specs.Closes.{AreAnswers, end_of, freed_all}
use Rattle.work_board.specs.declared.view.View.{View}
use Rattle.work_board.specs.Rule.{start_in}
use Rattle.work_board.specs.Seats.{SharedBoard, Worker}
use Rattle.work_board.proofs.Ending.{IsClosed, answers, closed_of, closing_ends, cursor_is, cursor_le, free_fits, row}
use Rattle.work_board.proofs.Given.{somes}
use Rattle.work_board.proofs.board.Board.close.Goals as goal
use Rattle.work_board.proofs.board.Board.close.Goals.{After-close_with-closed, After-word-cursor, After-len}

fit_in : (a b c : ℕ) → a ≤ b → b ≤ c → a ≤ c
fit_in a b c h i = omega arith

-- the board as it was made, by the board that contracts see
start-is : (c : After-close_with-closed) → start_in c.self.inside.queue.table.shared.key ≡ c.args.self.start
start-is c = ap (λ (b : SharedBoard). b.start) c.self.view_is

-- what is known of the words and the slots at the end
closed : (c : After-close_with-closed) → IsClosed c.args.self.start c.finish_turns.new.seat.knows.did (slots_items c.close_with-closed.result.words) (slots_items c.close_with-closed.result.slots)
closed c =
    let t = c.self.inside.queue.table.shared in let s = c.seat.inside in let v : View = s.seat.me.0 in let f = c.finish_turns.ensures in
    let ws : List ℕ = slots_items c.close_with-closed.result.words in let xs : List Slot = slots_items c.close_with-closed.result.slots in
    let known : v ≡ c.finish_turns.new.seat.knows = ap (λ (w : Worker). w.knows) c.seat.view_is in
    let begun : v.start ≡ start_in t.key = ap (λ (z : View). z.start) known ∙ f.belongs.1 ∙ sym (start-is c) in
    let whole : v.part ≡ t.key.seats = ap (λ (z : View). z.part) known ∙ f.part ∙ c.requires.whole ∙ sym (ap (λ (b : SharedBoard). b.seats) c.self.view_is) in
    let marked : IsSome v.mark = subst (λ (z : View). IsSome z.mark) (sym known) f.marked in
    let k : IsClosed (start_in t.key) v.did ws xs = closed_of (start_in t.key) t.key.seats s.seat.id v ws xs begun whole c.seat.invariant.rests.1 marked c.seat.invariant.rests.3 c.close_with-closed.ensures.values.2 in
    subst (λ (z : Start). IsClosed z c.finish_turns.new.seat.knows.did ws xs) (start-is c) (subst (λ (z : View). IsClosed (start_in t.key) z.did ws xs) known k)

pub take_slots-requires-clause-cell_room : goal.take_slots-requires-clause-cell_room
take_slots-requires-clause-cell_room c =
    let a = (goal.at.take_slots-requires-clause-cell_room c).After-close_with-closed in
    let r = row c.args.self.start c.finish_turns.new.seat.knows.did (slots_items c.close_with-closed.result.words) (slots_items c.close_with-closed.result.slots) (closed a) in
    subst (λ (n : ℕ). n ≤ vec_capacity c.self.inside.cells) (sym r.1) (subst (λ (z : Start). length z.cells ≤ vec_capacity c.self.inside.cells) (start-is a) c.self.invariant.cell_room)

pub take_slots-requires-clause-dock_room : goal.take_slots-requires-clause-dock_room
take_slots-requires-clause-dock_room c =
    let a = (goal.at.take_slots-requires-clause-dock_room c).After-close_with-closed in
    let r = row c.args.self.start c.finish_turns.new.seat.knows.did (slots_items c.close_with-closed.result.words) (slots_items c.close_with-closed.result.slots) (closed a) in
    subst (λ (n : ℕ). n ≤ vec_capacity c.self.inside.docks) (sym r.2) (subst (λ (z : Start). length z.docks ≤ vec_capacity c.self.inside.docks) (start-is a) c.self.invariant.dock_room)

-- what was known before the cursor was read, and before the jobs were counted
abbrev by-word : After-word-cursor → After-close_with-closed
by-word c = c.before.before.before.before.before.before

abbrev at-word : After-len → After-word-cursor
at-word c = c.before.before.before.before.before

abbrev by-len : After-len → After-close_with-closed
by-len c = by-word (at-word c)

-- the cursor was read
cursor-at : (c : After-word-cursor) → c.word-cursor.result ≡ (closed (by-word c)).cursor
cursor-at c =
    let a = by-word c in
    let same : slots_items c.take_slots.new.closed.words ≡ slots_items c.close_with-closed.result.words = ap slots_items c.take_slots.ensures.words in
    cursor_is c.args.self.start c.finish_turns.new.seat.knows.did (slots_items c.close_with-closed.result.words) (slots_items c.close_with-closed.result.slots) (closed a) c.word-cursor.result
    (subst (λ (l : List ℕ). get_elem? l 1 ≡ some c.word-cursor.result) same c.word-cursor.ensures)

free-is : (c : After-word-cursor) → c.self.inside.queue.free.items ≡ c.args.self.start.free
free-is c = c.self.inside.queue.free_is ∙ ap (λ (z : Start). z.free) (start-is (by-word c))

pub drop_drawn-requires : goal.drop_drawn-requires
drop_drawn-requires c =
    let w = (goal.at.drop_drawn-requires c).After-word-cursor in let a = by-word w in
    let le : (closed a).cursor ≤ length c.args.self.start.free = cursor_le c.args.self.start c.finish_turns.new.seat.knows.did (slots_items c.close_with-closed.result.words) (slots_items c.close_with-closed.result.slots) (closed a) in
    let len : vec_len c.self.inside.queue.free ≡ length c.self.inside.queue.free.items = search rules in
    subst (λ (n : ℕ). n ≤ vec_len c.self.inside.queue.free) (sym (cursor-at w)) (subst (λ (n : ℕ). (closed a).cursor ≤ n) (sym (len ∙ ap length (free-is w))) le)

-- the words are still those of the answers
answers-in : (c : After-len) → AreAnswers c.len.result (slots_items c.take_slots.new.closed.words) (somes (closed (by-len c)).done)
answers-in c =
    let a = by-len c in let k = closed a in
    let same : slots_items c.take_slots.new.closed.words ≡ slots_items c.close_with-closed.result.words = ap slots_items c.take_slots.ensures.words in
    let listed : c.len.result ≡ length c.self.inside.queue.jobs.items = search rules in
    let jobs : c.len.result ≡ length c.args.self.start.jobs = listed ∙ ap length c.self.inside.queue.jobs_are ∙ ap (λ (z : Start). length z.jobs) (start-is a) in
    subst (λ (l : List ℕ). AreAnswers c.len.result l (somes k.done)) (sym same)
    (subst (λ (n : ℕ). AreAnswers n (slots_items c.close_with-closed.result.words) (somes k.done)) (sym jobs)
    (answers c.args.self.start c.finish_turns.new.seat.knows.did (slots_items c.close_with-closed.result.words) (slots_items c.close_with-closed.result.slots) k))

-- the free numbers that no job drew
rest-is : (c : After-len) → c.drop_drawn.new.free.items ≡ take (length c.args.self.start.free - (closed (by-len c)).cursor) (reverse c.args.self.start.free)
rest-is c =
    let w = at-word c in let is = free-is w in let at = cursor-at w in
    c.drop_drawn.ensures.items ∙ (λ i. take (length (is i) - at i) (reverse (is i)))

pub take_answers-requires-clause-room : goal.take_answers-requires-clause-room
take_answers-requires-clause-room c =
    let e = (goal.at.take_answers-requires-clause-room c).After-len in let a = by-len e in let k = closed a in
    let st : Start = c.args.self.start in
    let own : vec_len c.drop_drawn.new.free ≡ length c.drop_drawn.new.free.items = search rules in
    let len : vec_len c.drop_drawn.new.free ≡ length (take (length st.free - k.cursor) (reverse st.free)) = own ∙ ap length (rest-is e) in
    let begin : length st.cells ≤ vec_capacity c.self.inside.queue.free = subst (λ (z : Start). length z.cells ≤ vec_capacity c.self.inside.queue.free) (start-is a) c.self.invariant.free_room in
    let room : length st.cells ≤ vec_capacity c.drop_drawn.new.free = subst (λ (m : ℕ). length st.cells ≤ m) (sym c.drop_drawn.ensures.capacity) begin in
    let fits = free_fits st c.finish_turns.new.seat.knows.did (slots_items c.close_with-closed.result.words) (slots_items c.close_with-closed.result.slots) k in
    (somes k.done, answers-in e, subst (λ (m : ℕ). m + length (freed_all (somes k.done)) ≤ vec_capacity c.drop_drawn.new.free) (sym len) (fit_in _ _ _ fits room))

pub returns-clause-ends : goal.returns-clause-ends
returns-clause-ends c =
    let e = (goal.at.returns-clause-ends c).After-len in let k = closed (by-len e) in
    let told = c.take_answers.ensures.answers (somes k.done) (answers-in e) in
    closing_ends c.args.self.start c.finish_turns.new.seat.knows.did (slots_items c.close_with-closed.result.words) (slots_items c.close_with-closed.result.slots) k
    (end_of record { cells = c.take_slots.new.cells; docks = c.take_slots.new.docks; free = c.take_answers.new.free; done = c.take_answers.new.done })
    c.take_slots.ensures.cells c.take_slots.ensures.docks told.0 (told.1 ∙ ap (λ (l : List ℕ). l ++ freed_all (somes k.done)) (rest-is e))

pub returns-clause-once : goal.returns-clause-once
returns-clause-once c =
    let k = closed (goal.at.returns-clause-once c).After-close_with-closed in
    (drop (length c.args.seat.knows.did) c.finish_turns.new.seat.knows.did, λ j. ap (count_of j) (sym c.finish_turns.ensures.did) ∙ k.once j)

pub returns-clause-marked : goal.returns-clause-marked
returns-clause-marked c = λ marked j.
    let k = closed (goal.at.returns-clause-marked c).After-close_with-closed in
    ap (count_of j) (sym (c.finish_turns.ensures.still marked)) ∙ k.once j
