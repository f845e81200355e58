use Rattle.std.proofs.Common.{ap, sym, subst}
use Rattle.work_board.specs.Seats.{Worker, IsAtRest, IsTurn}
use Rattle.work_board.specs.declared.view.View.{View}
use Rattle.work_board.proofs.Turning.{once_after, turned, turn_is}
use Rattle.work_board.proofs.board.Board.turn_with.Goals as goal

pub invariant_of-seat : goal.invariant_of-seat
invariant_of-seat c =
    let s = c.seat.inside in
    subst (λ b. IsAtRest s.part b c.turn-turn.new.seat.me) (sym c.is_marked-seat-inside.ensures) (turned s.part s.marked s.seat.me c.turn-turn.new.seat.me c.turn-turn.result c.seat.invariant c.turn-turn.ensures.turned)

pub returns-clause-turned : goal.returns-clause-turned
returns-clause-turned c =
    let s = c.seat.inside in
    subst (λ (v : View). IsTurn v c.turn-turn.new.seat.me.0 c.turn-turn.result) (ap (λ (w : Worker). w.knows) c.seat.view_is) (turn_is s.part s.marked s.seat.me c.turn-turn.new.seat.me c.turn-turn.result c.seat.invariant c.turn-turn.ensures.turned)

pub returns-clause-once : goal.returns-clause-once
returns-clause-once c = let s = c.seat.inside in once_after s.part s.marked s.seat.me c.turn-turn.new.seat.me c.turn-turn.result c.seat.invariant c.turn-turn.ensures.turned
