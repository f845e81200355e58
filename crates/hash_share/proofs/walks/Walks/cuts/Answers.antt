use Rattle.std.proofs.Common.{◌≤◌, ◌<◌, subst, arith}
use Rattle.hash_share.proofs.Moves.{cuts}
use Rattle.hash_share.proofs.walks.Walks.cuts.Goals as goal

pub split_seat-requires : goal.split_seat-requires
split_seat-requires g c =
    let is = c.requires.key in let v = c.args.seat.now.me.0 in (
      c.requires.seat,
      (let w = c.args.self.now.wide in omega arith),
      cuts _ _ _ v g.K.Key.key (subst (λ k. 1 ≤ k) is c.requires.part.0) (subst (λ k. k < v.part) is c.requires.part.1) c.requires.fresh,
    )
