use Rattle.std.proofs.Common.{ℕ, ◌<◌, subst, sym}
use Rattle.hash_share.proofs.Hands.{tied_top, tied_none}
use Rattle.hash_share.proofs.walks.Walks.own_node.Goals as goal

pub returns-in-Some-clause-node : goal.returns-in-Some-clause-node
returns-in-Some-clause-node c =
    let t = c.requires.tied in
    let h = c.args.hand.now in
    let o = tied_top c.args.self.now.table.shared.key.start.value h.seat.me h.spares h.marked c.in-Some.node t c.in-Some.ensures in
    (subst (λ (n : ℕ). c.in-Some.node < n) (sym c.args.self.now.sizes.1) o.0, o.1)

pub draw-drawn-requires-clause-empty : goal.draw-drawn-requires-clause-empty
draw-drawn-requires-clause-empty c =
    let h = c.args.hand.now in
    tied_none c.args.self.now.table.shared.key.start.value h.seat.me h.spares h.marked c.requires.tied c.in_default.ensures
