use Rattle.std.proofs.Common.{◌∙◌, subst, arith}
use Rattle.work_board.specs.Rule.{start_in}
use Rattle.work_board.specs.Steps.{Held, NoneTwice}
use Rattle.work_board.proofs.Parts.{joins, weighs}
use Rattle.work_board.proofs.queue.Queue.join.Goals as goal

pub join_seat-requires : goal.join_seat-requires
join_seat-requires c =
    let t = c.args.self.now.table.shared in let v = c.args.seat.now.me.0 in let r = c.requires.rests in (
      c.requires.table.0,
      c.requires.table.1,
      r.1.2,
      (let w = c.args.self.now.words_are in omega arith),
      joins (start_in t.key) t.key.seats c.args.seat.now.id c.args.other.id v c.args.other.me.0 r.0.3 r.0.1 r.1.1 r.0.0,
    )

pub load-requires : goal.load-requires
load-requires c =
    let t = c.args.self.now.table.shared in (
      c.join_seat.ensures.0 ∙ c.requires.table.0,
      (let w = c.args.self.now.words_are in omega arith),
      weighs (start_in t.key) t.key.seats t.table_id.slots c.join_seat.new.seat.id c.join_seat.new.seat.me,
    )

pub returns-clause-once : goal.returns-clause-once
returns-clause-once c = subst (λ (h : Held). NoneTwice h.0.did) c.join_seat.ensures.2 c.load.ensures.2.2
