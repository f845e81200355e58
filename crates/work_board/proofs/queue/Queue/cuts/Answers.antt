use Rattle.std.proofs.Common.{ℕ, ◌≤◌, ◌<◌, subst, arith}
use Rattle.work_board.specs.Rule.{start_in}
use Rattle.work_board.proofs.Parts.{cuts}
use Rattle.work_board.proofs.queue.Queue.cuts.Goals as goal

pub split_seat-requires : goal.split_seat-requires
split_seat-requires g c =
    let t = c.args.self.now.table.shared in let v = c.args.seat.now.me.0 in let r = c.requires.rests in let is = c.requires.key in (
      c.requires.table,
      (let w = c.args.self.now.words_are in omega arith),
      cuts (start_in t.key) t.key.seats c.args.seat.now.id g.K.Key.key v (subst (λ (k : ℕ). 1 ≤ k) is c.requires.part.0) (subst (λ (k : ℕ). k < v.part) is c.requires.part.1) r.1 r.0,
    )
