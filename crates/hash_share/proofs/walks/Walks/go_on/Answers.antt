use Rattle.std.proofs.Common.{◌≡◌, ℕ, ◌+◌, ◌*◌, subst, sym, ap, ◌∙◌}
use Rattle.spatial_hash.specs.Table.{Table}
use Rattle.fusion_core.specs.TouchSteps.{IsNextKey}
use Rattle.hash_share.proofs.Chaining.{ahead_node}
use Rattle.hash_share.proofs.walks.Walks.go_on.Goals as goal

pub look-requires-clause-ahead : goal.look-requires-clause-ahead
look-requires-clause-ahead c =
    let v = c.args.hand.now.seat.me.0 in
    let w = c.hop.new.hand.seat.me.0 in
    let same : w.start.buckets ≡ c.args.self.now.buckets = ap (λ (t : Table). t.buckets) c.in-Node.ensures.tied.begun ∙ sym c.args.self.now.sizes.0 in
    subst (λ (b : ℕ). IsNextKey w.start w.seen c.args.key (4 * b + c.in-Node.node)) same (ahead_node c.args.key c.args.link c.in-Node.node v w c.in-Node.ensures.hop c.requires.reached)
