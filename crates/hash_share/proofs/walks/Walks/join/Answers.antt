use Rattle.std.proofs.Common.{arith}
use Rattle.hash_share.proofs.Moves.{joins}
use Rattle.hash_share.proofs.walks.Walks.join.Goals as goal

pub join_seat-requires : goal.join_seat-requires
join_seat-requires c = (c.requires.seat.0, c.requires.seat.1, c.requires.part.1, (let w = c.args.self.now.wide in omega arith), joins _ _ _ _ c.args.seat.now.me.0 c.args.other.me.0 c.requires.part.0)
