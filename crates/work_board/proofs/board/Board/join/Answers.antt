use Rattle.std.proofs.Common.{sym, subst}
use Rattle.work_board.specs.Steps.{Held, NoneTwice}
use Rattle.work_board.proofs.Turning.{both_rest}
use Rattle.work_board.proofs.board.Board.join.Goals as goal

pub invariant_of-seat : goal.invariant_of-seat
invariant_of-seat c =
    let s = c.seat.inside in let t = c.other.inside in let any = c.any-seat-inside in
    both_rest s.part t.part s.marked t.marked any.result s.seat.me t.seat.me c.join.new.seat.me c.seat.invariant c.other.invariant any.ensures.yes any.ensures.no c.join.ensures.seat c.join.ensures.once

pub returns-clause-once : goal.returns-clause-once
returns-clause-once c = subst (λ (h : Held). NoneTwice h.0.did) (sym c.join.ensures.seat) c.join.ensures.once
