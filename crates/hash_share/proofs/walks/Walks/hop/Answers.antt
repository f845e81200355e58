use Rattle.std.proofs.Common.{◌≡◌, ℕ, ◌≤◌, subst, sym, ap, ◌∙◌}
use Rattle.spatial_hash.specs.Table.{Table}
use Rattle.hash_share.specs.Steps.{Held, past}
use Rattle.hash_share.proofs.Hops.{hop_out}
use Rattle.hash_share.proofs.walks.Walks.hop.Goals as goal

pub returns-in-Err-clause-hop : goal.returns-in-Err-clause-hop
returns-in-Err-clause-hop c =
    let m : Held = c.args.hand.now.seat.me in
    let zero_there : c.follow-next.result ≡ 0 = c.if-next-ne0.false in
    let same : c.follow-next.new.seat.me ≡ m = c.follow-next.ensures.none zero_there in
    let nodes : c.args.self.now.nodes ≡ m.0.start.nodes = c.args.self.now.sizes.1 ∙ sym (ap (λ (t : Table). t.nodes) c.requires.tied.begun) in
    hop_out c.args.key c.args.link c.in-Err.drawn m c.own_node.new.hand.seat.me (c.in-Err.ensures.out.1 ∙ ap (λ (h : Held). past c.in-Err.drawn h.0) same) (subst (λ (n : ℕ). n ≤ c.in-Err.drawn) nodes c.in-Err.ensures.out.0) (c.follow-next.ensures.absent zero_there)
