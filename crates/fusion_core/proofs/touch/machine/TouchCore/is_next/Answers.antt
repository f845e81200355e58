use Rattle.fusion_core.proofs.TouchGuards.{guard_wide, guard_short, next_yes, next_back, next_inside}
use Rattle.fusion_core.proofs.touch.machine.TouchCore.is_next.Goals as goal

pub is_next-requires-clause-wide : goal.is_next-requires-clause-wide
is_next-requires-clause-wide c = (let m = c.self.inside in guard_wide m.start.value m.size m.words.items m.seats.items c.self.invariant c.args.self.now c.self.view_is c.args.seat c.requires c.index.result.now c.index.ensures)

pub is_next-requires-clause-short : goal.is_next-requires-clause-short
is_next-requires-clause-short c = (let m = c.self.inside in guard_short m.start.value m.size m.words.items m.seats.items c.self.invariant c.args.self.now c.self.view_is c.args.seat c.requires c.index.result.now c.index.ensures c.args.key)

pub returns-clause-next : goal.returns-clause-next
returns-clause-next c =
    let m = c.self.inside in (
      (λ t. next_yes m.start.value m.size m.words.items m.seats.items c.self.invariant c.args.self.now c.self.view_is c.args.seat c.requires c.index.result.now c.index.ensures c.args.key c.args.word (c.is_next.ensures.0 t)),
      (λ n. c.is_next.ensures.1 (next_back m.start.value m.size m.words.items m.seats.items c.self.invariant c.args.self.now c.self.view_is c.args.seat c.requires c.index.result.now c.index.ensures c.args.key c.args.word n)),
    )

pub returns-clause-low : goal.returns-clause-low
returns-clause-low c t = (let m = c.self.inside in next_inside m.start.value m.size m.words.items m.seats.items c.self.invariant c.args.self.now c.self.view_is c.args.seat c.requires c.index.result.now c.index.ensures c.args.key c.args.word (c.is_next.ensures.0 t))
