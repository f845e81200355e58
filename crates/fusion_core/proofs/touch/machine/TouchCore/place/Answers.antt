use Rattle.std.proofs.Common.{rules}
use Rattle.fusion_core.specs.declared.touch.event.Touch.TheVariants.{Place}
use Rattle.fusion_core.proofs.TouchEffects.{is_there, place_seen, place_room, place_leaves}
use Rattle.fusion_core.proofs.touch.machine.TouchCore.place.Goals as goal

pub index_mut-requires-2 : goal.index_mut-requires-2
index_mut-requires-2 c =
    let m = c.self.inside in
    let l = is_there m.start.value m.size m.words.items m.seats.items c.self.invariant c.args.self.now c.self.view_is c.args.seat (Place c.args.entry c.args.key) c.requires in
    search (rules, l)

pub place-requires-clause-low : goal.place-requires-clause-low
place-requires-clause-low c =
    let m = c.self.inside in
    place_seen m.start.value m.size m.words.items m.seats.items c.self.invariant c.args.self.now c.self.view_is c.args.seat c.args.entry c.args.key c.requires
    c.index_mut-2.result.now c.index_mut-2.ensures.value c.word-key.result c.word-key.ensures.value c.word-key.ensures.bound

pub place-requires-clause-room : goal.place-requires-clause-room
place-requires-clause-room c =
    let m = c.self.inside in
    (place_room m.start.value m.size m.words.items m.seats.items c.self.invariant c.args.self.now c.self.view_is c.args.seat c.args.entry c.args.key c.requires
    c.index_mut-2.result.now c.index_mut-2.ensures.value c.word-key.result c.word-key.ensures.value c.word-key.ensures.bound).0

pub place-requires-clause-more : goal.place-requires-clause-more
place-requires-clause-more c =
    let m = c.self.inside in
    (place_room m.start.value m.size m.words.items m.seats.items c.self.invariant c.args.self.now c.self.view_is c.args.seat c.args.entry c.args.key c.requires
    c.index_mut-2.result.now c.index_mut-2.ensures.value c.word-key.result c.word-key.ensures.value c.word-key.ensures.bound).1

pub invariant_of-self : goal.invariant_of-self
invariant_of-self c =
    let m = c.self.inside in
    (place_leaves m.start.value m.size m.words.items m.seats.items c.self.invariant c.args.self.now c.self.view_is c.args.seat c.args.entry c.args.key c.requires
    c.index_mut-2.result.now c.index_mut-2.ensures.value c.word-key.result c.word-key.ensures.value c.word-key.ensures.bound c.place.new.self c.place.ensures).0

pub returns-clause-step : goal.returns-clause-step
returns-clause-step c =
    let m = c.self.inside in
    (place_leaves m.start.value m.size m.words.items m.seats.items c.self.invariant c.args.self.now c.self.view_is c.args.seat c.args.entry c.args.key c.requires
    c.index_mut-2.result.now c.index_mut-2.ensures.value c.word-key.result c.word-key.ensures.value c.word-key.ensures.bound c.place.new.self c.place.ensures).1

pub returns-clause-rule : goal.returns-clause-rule
returns-clause-rule c =
    let m = c.self.inside in
    (place_leaves m.start.value m.size m.words.items m.seats.items c.self.invariant c.args.self.now c.self.view_is c.args.seat c.args.entry c.args.key c.requires
    c.index_mut-2.result.now c.index_mut-2.ensures.value c.word-key.result c.word-key.ensures.value c.word-key.ensures.bound c.place.new.self c.place.ensures).0.rule
