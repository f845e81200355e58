use Rattle.std.proofs.Common.{◌<◌, sym, subst}
use Rattle.work_board.specs.Seats.{Worker}
use Rattle.work_board.proofs.Turning.{left_rests}
use Rattle.work_board.proofs.board.Board.split.Goals as goal

pub invariant_of-seat : goal.invariant_of-seat
invariant_of-seat c =
    let s = c.seat.inside in
    let less : c.args.part < s.seat.me.0.part = subst (λ (w : Worker). c.args.part < w.knows.part) (sym c.seat.view_is) c.requires.part.1 in
    left_rests s.part s.marked s.seat.me c.seat.invariant c.args.part c.requires.part.0 less c.split-other.new.seat.me c.split-other.ensures.seat
