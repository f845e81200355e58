use Rattle.std.proofs.Common.{rules, ◌+◌, ◌*◌, ◌^◌, ◌<◌, arith}
use Rattle.fusion_core.specs.declared.touch.event.Touch.TheVariants.{Fill}
use Rattle.fusion_core.proofs.TouchEffects.{is_there, nodes_again, words_few, fill_some, fill_inside, fill_leaves}
use Rattle.fusion_core.proofs.touch.machine.TouchCore.fill.Goals as goal

pub index-requires : goal.index-requires
index-requires c =
    let m = c.self.inside in
    let l = is_there m.start.value m.size m.words.items m.seats.items c.self.invariant c.args.self.now c.self.view_is c.args.seat (Fill c.args.key) c.requires in
    search (rules, l)

pub unreachable-requires : goal.unreachable-requires
unreachable-requires c =
    let m = c.self.inside in
    fill_some m.start.value m.size m.words.items m.seats.items c.self.invariant c.args.self.now c.self.view_is c.args.seat c.args.key c.requires c.index.result.now c.index.ensures c.in_default.ensures

pub overflow_add-self-inside : goal.overflow_add-self-inside
overflow_add-self-inside c =
    let m = c.self.inside in
    let l = fill_inside m.start.value m.size m.words.items m.seats.items c.self.invariant c.args.self.now c.self.view_is c.args.seat c.args.key c.requires c.index.result.now c.index.ensures c.in-Some.node.number c.in-Some.node.word c.in-Some.ensures in
    let n = words_few m.start.value m.size m.words.items m.seats.items c.self.invariant c.args.self.now c.self.view_is c.args.seat in
    let q : 4 * c.self.inside.size.buckets + c.in-Some.node.number < 2 ^ 64 = omega arith in
    search (rules, q)

pub index_mut-requires : goal.index_mut-requires
index_mut-requires c =
    let m = c.self.inside in
    let l = fill_inside m.start.value m.size m.words.items m.seats.items c.self.invariant c.args.self.now c.self.view_is c.args.seat c.args.key c.requires c.index.result.now c.index.ensures c.in-Some.node.number c.in-Some.node.word c.in-Some.ensures in
    search (rules, l)

pub index_mut-requires-2 : goal.index_mut-requires-2
index_mut-requires-2 c =
    let m = c.self.inside in
    let l = is_there m.start.value m.size m.words.items m.seats.items c.self.invariant c.args.self.now c.self.view_is c.args.seat (Fill c.args.key) c.requires in
    search (rules, l)

pub invariant_of-self : goal.invariant_of-self
invariant_of-self c =
    let m = c.self.inside in
    (fill_leaves m.start.value m.size m.words.items m.seats.items c.self.invariant c.args.self.now c.self.view_is c.args.seat c.args.key c.requires c.index_mut-2.result.now c.index_mut-2.ensures.value c.in-Some.node.number c.in-Some.node.word (nodes_again m.start.value m.size m.words.items m.seats.items c.self.invariant c.args.self.now c.self.view_is c.args.seat (Fill c.args.key) c.requires c.index.result.now c.index_mut-2.result.now c.index.ensures c.index_mut-2.ensures.value _ c.in-Some.ensures)
    c.word-key.result c.store.new.self c.word-key.ensures.value c.word-key.ensures.bound c.store.ensures).0

pub returns-clause-step : goal.returns-clause-step
returns-clause-step c =
    let m = c.self.inside in
    (fill_leaves m.start.value m.size m.words.items m.seats.items c.self.invariant c.args.self.now c.self.view_is c.args.seat c.args.key c.requires c.index_mut-2.result.now c.index_mut-2.ensures.value c.in-Some.node.number c.in-Some.node.word (nodes_again m.start.value m.size m.words.items m.seats.items c.self.invariant c.args.self.now c.self.view_is c.args.seat (Fill c.args.key) c.requires c.index.result.now c.index_mut-2.result.now c.index.ensures c.index_mut-2.ensures.value _ c.in-Some.ensures)
    c.word-key.result c.store.new.self c.word-key.ensures.value c.word-key.ensures.bound c.store.ensures).1

pub returns-clause-rule : goal.returns-clause-rule
returns-clause-rule c =
    let m = c.self.inside in
    (fill_leaves m.start.value m.size m.words.items m.seats.items c.self.invariant c.args.self.now c.self.view_is c.args.seat c.args.key c.requires c.index_mut-2.result.now c.index_mut-2.ensures.value c.in-Some.node.number c.in-Some.node.word (nodes_again m.start.value m.size m.words.items m.seats.items c.self.invariant c.args.self.now c.self.view_is c.args.seat (Fill c.args.key) c.requires c.index.result.now c.index_mut-2.result.now c.index.ensures c.index_mut-2.ensures.value _ c.in-Some.ensures)
    c.word-key.result c.store.new.self c.word-key.ensures.value c.word-key.ensures.bound c.store.ensures).0.rule
