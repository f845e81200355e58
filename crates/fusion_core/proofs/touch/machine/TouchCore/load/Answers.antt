use Rattle.std.proofs.Common.{rules}
use Rattle.fusion_core.specs.declared.touch.event.Touch.TheVariants.{Seen}
use Rattle.fusion_core.proofs.TouchEffects.{is_there, load_low, load_seen, load_room, load_leaves}
use Rattle.fusion_core.proofs.touch.machine.TouchCore.load.Goals as goal

pub index-value-requires : goal.index-value-requires
index-value-requires c =
    let m = c.self.inside in
    let l = load_low m.start.value m.size m.words.items m.seats.items c.self.invariant c.args.self.now c.self.view_is c.args.seat c.args.word c.args.key c.requires in
    search (rules, l)

pub index_mut-requires : goal.index_mut-requires
index_mut-requires c =
    let m = c.self.inside in
    let l = is_there m.start.value m.size m.words.items m.seats.items c.self.invariant c.args.self.now c.self.view_is c.args.seat (Seen c.args.word c.args.key) c.requires in
    search (rules, l)

pub load-requires-clause-low : goal.load-requires-clause-low
load-requires-clause-low c =
    let m = c.self.inside in
    load_seen m.start.value m.size m.words.items m.seats.items c.self.invariant c.args.self.now c.self.view_is c.args.seat c.args.word c.args.key c.requires
    c.index_mut.result.now c.index_mut.ensures.value c.word.result c.word.ensures.value c.index-value.result.now c.index-value.ensures

pub load-requires-clause-room : goal.load-requires-clause-room
load-requires-clause-room c =
    let m = c.self.inside in
    load_room m.start.value m.size m.words.items m.seats.items c.self.invariant c.args.self.now c.self.view_is c.args.seat c.args.word c.args.key c.requires
    c.index_mut.result.now c.index_mut.ensures.value c.word.result c.word.ensures.value c.index-value.result.now c.index-value.ensures

pub invariant_of-self : goal.invariant_of-self
invariant_of-self c =
    let m = c.self.inside in
    (load_leaves m.start.value m.size m.words.items m.seats.items c.self.invariant c.args.self.now c.self.view_is c.args.seat c.args.word c.args.key c.requires
    c.index_mut.result.now c.index_mut.ensures.value c.word.result c.word.ensures.value c.index-value.result.now c.index-value.ensures c.load.new.self c.load.ensures).0

pub returns-clause-step : goal.returns-clause-step
returns-clause-step c =
    let m = c.self.inside in
    (load_leaves m.start.value m.size m.words.items m.seats.items c.self.invariant c.args.self.now c.self.view_is c.args.seat c.args.word c.args.key c.requires
    c.index_mut.result.now c.index_mut.ensures.value c.word.result c.word.ensures.value c.index-value.result.now c.index-value.ensures c.load.new.self c.load.ensures).1

pub returns-clause-rule : goal.returns-clause-rule
returns-clause-rule c =
    let m = c.self.inside in
    (load_leaves m.start.value m.size m.words.items m.seats.items c.self.invariant c.args.self.now c.self.view_is c.args.seat c.args.word c.args.key c.requires
    c.index_mut.result.now c.index_mut.ensures.value c.word.result c.word.ensures.value c.index-value.result.now c.index-value.ensures c.load.new.self c.load.ensures).0.rule
