use Rattle.std.proofs.Common.{◌≡◌, ℕ, ◌+◌, ◌<◌, ◌++◌, length, drop}
use Rattle.std.specs.Prelude.{IsSome}
use Rattle.fusion_core.specs.Counts.{count_of}
use Rattle.work_board.specs.Seats.{Belongs}
use Rattle.work_board.specs.Steps.{NoneTwice}
use Rattle.work_board.proofs.board.Board.finish_turns.Given as goal

abbrev pub invariant-loop-i : goal.invariant-loop-i
invariant-loop-i l = Belongs l.seat l.self × (l.seat.knows.part ≡ l.fn.seat.knows.part)
    × (l.seat.knows.did ≡ l.fn.seat.knows.did ++ drop (length l.fn.seat.knows.did) l.seat.knows.did)
    × (length l.seat.knows.did ≡ length l.fn.seat.knows.did + l.i)
    × (0 < l.i → NoneTwice l.seat.knows.did)
    × ((x : ℕ) → 0 < count_of x (drop (length l.fn.seat.knows.did) l.seat.knows.did) → x < length l.self.start.jobs)
    × (l.seat.knows.mark ≡ l.fn.seat.knows.mark)
    × (IsSome l.fn.seat.knows.mark → l.seat.knows.did ≡ l.fn.seat.knows.did)
