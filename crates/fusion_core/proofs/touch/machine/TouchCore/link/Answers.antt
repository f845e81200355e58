use Rattle.std.proofs.Common.{rules, ◌+◌, ◌*◌, ◌^◌, ◌<◌, refl, arith}
use Rattle.fusion_core.specs.declared.touch.event.Touch.TheVariants.{Link}
use Rattle.fusion_core.proofs.TouchEffects.{is_there, nodes_again, seen_wide, nodes_few, words_few, link_inside, link_some, node_inside, link_seen, link_room, link_leaves}
use Rattle.fusion_core.proofs.touch.machine.TouchCore.link.Goals as goal

pub index-requires : goal.index-requires
index-requires c =
    let m = c.self.inside in
    let l = is_there m.start.value m.size m.words.items m.seats.items c.self.invariant c.args.self.now c.self.view_is c.args.seat (Link c.args.word) c.requires in
    search (rules, l)

pub unreachable-requires : goal.unreachable-requires
unreachable-requires c =
    let m = c.self.inside in
    link_some m.start.value m.size m.words.items m.seats.items c.self.invariant c.args.self.now c.self.view_is c.args.seat c.args.word c.requires c.index.result.now c.index.ensures c.in_default.ensures

pub overflow_add-node : goal.overflow_add-node
overflow_add-node c =
    let m = c.self.inside in
    let l = node_inside m.start.value m.size m.words.items m.seats.items c.self.invariant c.args.self.now c.self.view_is c.args.seat c.args.word c.requires c.index.result.now c.index.ensures c.in-Some.node.number c.in-Some.node.word c.in-Some.ensures in
    let n = nodes_few m.start.value m.size m.words.items m.seats.items c.self.invariant c.args.self.now c.self.view_is c.args.seat in
    let q : c.in-Some.node.number + 1 < 2 ^ 64 = omega arith in
    search (rules, q)

pub index_mut-requires : goal.index_mut-requires
index_mut-requires c =
    let m = c.self.inside in
    let l = link_inside m.start.value m.size m.words.items m.seats.items c.self.invariant c.args.self.now c.self.view_is c.args.seat c.args.word c.requires in
    search (rules, l)

pub index_mut-requires-2 : goal.index_mut-requires-2
index_mut-requires-2 c =
    let m = c.self.inside in
    let l = is_there m.start.value m.size m.words.items m.seats.items c.self.invariant c.args.self.now c.self.view_is c.args.seat (Link c.args.word) c.requires in
    search (rules, l)

pub overflow_add-self-inside : goal.overflow_add-self-inside
overflow_add-self-inside c =
    let m = c.self.inside in
    let l = (link_seen m.start.value m.size m.words.items m.seats.items c.self.invariant c.args.self.now c.self.view_is c.args.seat c.args.word c.requires c.index.result.now c.index.ensures c.in-Some.node.number c.in-Some.node.word c.in-Some.ensures).1 in
    let w = seen_wide m.start.value m.size m.words.items m.seats.items c.self.invariant c.args.self.now c.self.view_is c.args.seat (Link c.args.word) c.requires c.index.result.now c.index.ensures in
    let n = words_few m.start.value m.size m.words.items m.seats.items c.self.invariant c.args.self.now c.self.view_is c.args.seat in
    let q : 4 * c.self.inside.size.buckets + c.in-Some.node.number < 2 ^ 64 = omega arith in
    search (rules, q)

pub link-requires-clause-node : goal.link-requires-clause-node
link-requires-clause-node c =
    let m = c.self.inside in
    nodes_again m.start.value m.size m.words.items m.seats.items c.self.invariant c.args.self.now c.self.view_is c.args.seat (Link c.args.word) c.requires c.index.result.now c.index_mut-2.result.now c.index.ensures c.index_mut-2.ensures.value _ c.in-Some.ensures

pub link-requires-clause-number : goal.link-requires-clause-number
link-requires-clause-number c =
    let m = c.self.inside in
    let l = node_inside m.start.value m.size m.words.items m.seats.items c.self.invariant c.args.self.now c.self.view_is c.args.seat c.args.word c.requires c.index.result.now c.index.ensures c.in-Some.node.number c.in-Some.node.word c.in-Some.ensures in
    let n = nodes_few m.start.value m.size m.words.items m.seats.items c.self.invariant c.args.self.now c.self.view_is c.args.seat in
    omega arith

pub link-requires-clause-link : goal.link-requires-clause-link
link-requires-clause-link c =
    let m = c.self.inside in
    (link_seen m.start.value m.size m.words.items m.seats.items c.self.invariant c.args.self.now c.self.view_is c.args.seat c.args.word c.requires c.index_mut-2.result.now c.index_mut-2.ensures.value c.in-Some.node.number c.in-Some.node.word (nodes_again m.start.value m.size m.words.items m.seats.items c.self.invariant c.args.self.now c.self.view_is c.args.seat (Link c.args.word) c.requires c.index.result.now c.index_mut-2.result.now c.index.ensures c.index_mut-2.ensures.value _ c.in-Some.ensures)).0

pub link-requires-clause-low : goal.link-requires-clause-low
link-requires-clause-low c =
    let m = c.self.inside in
    (link_seen m.start.value m.size m.words.items m.seats.items c.self.invariant c.args.self.now c.self.view_is c.args.seat c.args.word c.requires c.index_mut-2.result.now c.index_mut-2.ensures.value c.in-Some.node.number c.in-Some.node.word (nodes_again m.start.value m.size m.words.items m.seats.items c.self.invariant c.args.self.now c.self.view_is c.args.seat (Link c.args.word) c.requires c.index.result.now c.index_mut-2.result.now c.index.ensures c.index_mut-2.ensures.value _ c.in-Some.ensures)).1

pub link-requires-clause-room : goal.link-requires-clause-room
link-requires-clause-room c =
    let m = c.self.inside in
    (link_room m.start.value m.size m.words.items m.seats.items c.self.invariant c.args.self.now c.self.view_is c.args.seat c.args.word c.requires c.index_mut-2.result.now c.index_mut-2.ensures.value c.in-Some.node.number c.in-Some.node.word (nodes_again m.start.value m.size m.words.items m.seats.items c.self.invariant c.args.self.now c.self.view_is c.args.seat (Link c.args.word) c.requires c.index.result.now c.index_mut-2.result.now c.index.ensures c.index_mut-2.ensures.value _ c.in-Some.ensures)).0

pub link-requires-clause-more : goal.link-requires-clause-more
link-requires-clause-more c =
    let m = c.self.inside in
    (link_room m.start.value m.size m.words.items m.seats.items c.self.invariant c.args.self.now c.self.view_is c.args.seat c.args.word c.requires c.index_mut-2.result.now c.index_mut-2.ensures.value c.in-Some.node.number c.in-Some.node.word (nodes_again m.start.value m.size m.words.items m.seats.items c.self.invariant c.args.self.now c.self.view_is c.args.seat (Link c.args.word) c.requires c.index.result.now c.index_mut-2.result.now c.index.ensures c.index_mut-2.ensures.value _ c.in-Some.ensures)).1

pub invariant_of-self : goal.invariant_of-self
invariant_of-self c =
    let m = c.self.inside in
    (link_leaves m.start.value m.size m.words.items m.seats.items c.self.invariant c.args.self.now c.self.view_is c.args.seat c.args.word c.requires c.index_mut-2.result.now c.index_mut-2.ensures.value c.in-Some.node.number c.in-Some.node.word (nodes_again m.start.value m.size m.words.items m.seats.items c.self.invariant c.args.self.now c.self.view_is c.args.seat (Link c.args.word) c.requires c.index.result.now c.index_mut-2.result.now c.index.ensures c.index_mut-2.ensures.value _ c.in-Some.ensures) (c.in-Some.node.number + 1) c.link.new.self refl c.link.ensures).0

pub returns-clause-step : goal.returns-clause-step
returns-clause-step c =
    let m = c.self.inside in
    (link_leaves m.start.value m.size m.words.items m.seats.items c.self.invariant c.args.self.now c.self.view_is c.args.seat c.args.word c.requires c.index_mut-2.result.now c.index_mut-2.ensures.value c.in-Some.node.number c.in-Some.node.word (nodes_again m.start.value m.size m.words.items m.seats.items c.self.invariant c.args.self.now c.self.view_is c.args.seat (Link c.args.word) c.requires c.index.result.now c.index_mut-2.result.now c.index.ensures c.index_mut-2.ensures.value _ c.in-Some.ensures) (c.in-Some.node.number + 1) c.link.new.self refl c.link.ensures).1

pub returns-clause-rule : goal.returns-clause-rule
returns-clause-rule c =
    let m = c.self.inside in
    (link_leaves m.start.value m.size m.words.items m.seats.items c.self.invariant c.args.self.now c.self.view_is c.args.seat c.args.word c.requires c.index_mut-2.result.now c.index_mut-2.ensures.value c.in-Some.node.number c.in-Some.node.word (nodes_again m.start.value m.size m.words.items m.seats.items c.self.invariant c.args.self.now c.self.view_is c.args.seat (Link c.args.word) c.requires c.index.result.now c.index_mut-2.result.now c.index.ensures c.index_mut-2.ensures.value _ c.in-Some.ensures) (c.in-Some.node.number + 1) c.link.new.self refl c.link.ensures).0.rule
