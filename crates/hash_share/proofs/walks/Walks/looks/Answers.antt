use Rattle.std.proofs.Common.{◌<◌, subst}
use Rattle.fusion_core.specs.TouchSteps.{IsNextKey}
use Rattle.hash_share.proofs.Moves.{looks}
use Rattle.hash_share.proofs.walks.Walks.looks.Goals as goal

pub load-requires : goal.load-requires
load-requires g c = (
  c.requires.seat.0,
  c.requires.entry,
  looks _ _ _ _ c.args.seat.now.me c.args.entry g.K.Key.key (subst (λ k. 0 < k) c.requires.key.0 c.requires.key.1) c.requires.seat.1 (subst (λ k. IsNextKey c.args.seat.now.me.0.start c.args.seat.now.me.0.seen k c.args.entry) c.requires.key.0 c.requires.ahead),
)
