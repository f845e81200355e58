use Rattle.std.proofs.Common.{◌≡◌, ℕ, suc, ◌+◌, ◌*◌, ◌<◌, ◌∷◌, sym, subst, arith}
use Rattle.fusion_core.specs.TouchSteps.{IsNextLink}
use Rattle.hash_share.specs.Steps.{HasPair}
use Rattle.hash_share.proofs.Moves.{hangs}
use Rattle.hash_share.proofs.Places.{link-word, link-low}
use Rattle.hash_share.proofs.walks.Walks.hangs.Goals as goal

pub compare_exchange-requires : goal.compare_exchange-requires
compare_exchange-requires g c =
    let m = c.args.seat.now.me in let w = c.args.self.now in let is = c.requires.key.0 in let n = c.requires.node in
    let a : ℕ = c.args.node in
    let up : a + 1 ≡ suc a = omega arith in (
      c.requires.seat.0,
      link-low _ _ _ _ w.table.shared.key.start.value w.sizes w.wide c.requires.link,
      hangs _ _ _ _ m _ c.args.link a (a + 1) g.K.Key.key n.0 (subst (λ k. 0 < k) is c.requires.key.1) c.requires.seat.1 (subst (λ (k : ℕ). m.0.nodes ≡ (a, k) ∷ n.0) is n.1) up (link-word _ _ _ _ _ w.sizes c.requires.seat.2)
          (subst (λ k. IsNextLink m.0.start m.0.seen k c.args.link) is c.requires.reached),
    )

pub returns-clause-pair : goal.returns-clause-pair
returns-clause-pair g c zero_there =
    let a : ℕ = c.args.node in
    let up : a + 1 ≡ suc a = omega arith in
    subst (λ (k : ℕ). HasPair k (4 * c.args.seat.now.me.0.start.buckets + a) c.compare_exchange.new.seat.me.0) (sym c.requires.key.0) (c.compare_exchange.ensures.2.3 zero_there a up)
