use Rattle.hash_share.proofs.Moves.{stores}
use Rattle.hash_share.proofs.Places.{node-word, node-low}
use Rattle.hash_share.proofs.walks.Walks.store.Goals as goal

pub store-requires : goal.store-requires
store-requires c =
    let m = c.args.seat.now.me in let w = c.args.self.now in let n = c.requires.node in (
      c.requires.seat.0,
      node-low _ _ _ _ w.table.shared.key.start.value w.sizes w.wide c.requires.low,
      stores _ _ _ _ m _ c.args.node c.args.key n.0 n.1 c.requires.key c.requires.seat.1 n.2 (node-word _ _ _ _ _ w.sizes c.requires.seat.2),
    )
