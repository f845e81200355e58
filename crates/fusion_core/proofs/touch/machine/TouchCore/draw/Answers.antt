use Rattle.std.proofs.Common.{rules, ◌≡◌, ℕ, ◌+◌, ◌^◌, ◌<◌, ap, ◌∙◌, arith}
use Rattle.fusion_core.specs.declared.touch.event.Touch.TheVariants.{Node}
use Rattle.fusion_core.specs.TouchRoom.{SeatRoom}
use Rattle.fusion_core.specs.TouchSteps.{draw_of}
use Rattle.fusion_core.proofs.TouchSums.{read_twice}
use Rattle.fusion_core.proofs.TouchEffects.{is_there, number_fits, draw_few, draw_none, draw_leaves}
use Rattle.fusion_core.proofs.touch.machine.TouchCore.draw.Goals as goal

pub index-requires : goal.index-requires
index-requires c =
    let m = c.self.inside in
    let l = is_there m.start.value m.size m.words.items m.seats.items c.self.invariant c.args.self.now c.self.view_is c.args.seat Node c.requires in
    search (rules, l)

pub overflow_add-number : goal.overflow_add-number
overflow_add-number c =
    let m = c.self.inside in
    let l = number_fits m.start.value m.size m.words.items m.seats.items c.self.invariant c.args.self.now c.self.view_is c.args.seat c.requires
    c.index.result.now c.index.ensures c.counter-counter.result c.counter-counter.ensures c.index-number.result.now c.index-number.ensures in
    let d = draw_few c.index.result.now.seat in
    let e = c.draw_step.ensures in
    let q : c.index-number.result.now + c.draw_step.result < 2 ^ 64 = omega arith in
    search (rules, q)

pub index_mut-requires-2 : goal.index_mut-requires-2
index_mut-requires-2 c =
    let m = c.self.inside in
    let l = is_there m.start.value m.size m.words.items m.seats.items c.self.invariant c.args.self.now c.self.view_is c.args.seat Node c.requires in
    search (rules, l)

pub draw-requires-clause-number : goal.draw-requires-clause-number
draw-requires-clause-number c =
    let m = c.self.inside in
    number_fits m.start.value m.size m.words.items m.seats.items c.self.invariant c.args.self.now c.self.view_is c.args.seat c.requires
    c.index_mut-2.result.now c.index_mut-2.ensures.value c.counter-counter.result c.counter-counter.ensures c.index-number.result.now c.index-number.ensures

pub draw-requires-clause-none : goal.draw-requires-clause-none
draw-requires-clause-none c =
    let m = c.self.inside in
    draw_none m.start.value m.size m.words.items m.seats.items c.self.invariant c.args.self.now c.self.view_is c.args.seat c.requires
    c.index_mut-2.result.now c.index_mut-2.ensures.value c.counter-counter.result c.counter-counter.ensures c.index-number.result.now c.index-number.ensures

-- the seat was read twice
step_is : (c : goal.After-self-2-1) → c.draw_step.result ≡ draw_of c.index_mut-2.result.now.seat
step_is c =
    let m = c.self.inside in
    c.draw_step.ensures ∙ ap (λ (r : SeatRoom). draw_of r.seat) (read_twice m.seats.items c.args.seat c.index_mut-2.result.now c.index.result.now (is_there m.start.value m.size m.words.items m.seats.items c.self.invariant c.args.self.now c.self.view_is c.args.seat Node c.requires) c.index_mut-2.ensures.value c.index.ensures)

pub invariant_of-self : goal.invariant_of-self
invariant_of-self c =
    let m = c.self.inside in
    (draw_leaves m.start.value m.size m.words.items m.seats.items c.self.invariant c.args.self.now c.self.view_is c.args.seat c.requires
    c.index_mut-2.result.now c.index_mut-2.ensures.value c.counter-counter.result c.counter-counter.ensures c.index-number.result.now c.index-number.ensures
    (c.index-number.result.now + c.draw_step.result) c.draw.new.self (ap (λ (d : ℕ). c.index-number.result.now + d) (step_is c)) c.draw.ensures).0

pub returns-clause-step : goal.returns-clause-step
returns-clause-step c =
    let m = c.self.inside in
    (draw_leaves m.start.value m.size m.words.items m.seats.items c.self.invariant c.args.self.now c.self.view_is c.args.seat c.requires
    c.index_mut-2.result.now c.index_mut-2.ensures.value c.counter-counter.result c.counter-counter.ensures c.index-number.result.now c.index-number.ensures
    (c.index-number.result.now + c.draw_step.result) c.draw.new.self (ap (λ (d : ℕ). c.index-number.result.now + d) (step_is c)) c.draw.ensures).1

pub returns-clause-rule : goal.returns-clause-rule
returns-clause-rule c =
    let m = c.self.inside in
    (draw_leaves m.start.value m.size m.words.items m.seats.items c.self.invariant c.args.self.now c.self.view_is c.args.seat c.requires
    c.index_mut-2.result.now c.index_mut-2.ensures.value c.counter-counter.result c.counter-counter.ensures c.index-number.result.now c.index-number.ensures
    (c.index-number.result.now + c.draw_step.result) c.draw.new.self (ap (λ (d : ℕ). c.index-number.result.now + d) (step_is c)) c.draw.ensures).0.rule
