use Rattle.std.proofs.Common.{arith}
use Rattle.work_board.specs.Rule.{start_in}
use Rattle.work_board.proofs.Allowed.{draws_cell}
use Rattle.work_board.proofs.queue.Queue.draw.Goals as goal

pub fetch_add-at-requires : goal.fetch_add-at-requires
fetch_add-at-requires c =
    let t = c.args.self.now.table.shared in (
      c.requires.table,
      (let w = c.args.self.now.words_are in omega arith),
      draws_cell (start_in t.key) t.key.seats t.table_id.slots c.args.seat.now.id c.args.seat.now.me c.args.job c.requires.works c.requires.carries c.requires.draws,
    )
