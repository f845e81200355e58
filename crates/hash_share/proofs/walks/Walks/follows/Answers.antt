use Rattle.std.proofs.Common.{ℕ, ◌<◌, subst, sym}
use Rattle.fusion_core.specs.TouchSteps.{IsNextLink}
use Rattle.fusion_core.specs.TouchLaws.{IsAbsent}
use Rattle.hash_share.proofs.Moves.{follows}
use Rattle.hash_share.proofs.Places.{link-word, link-low}
use Rattle.hash_share.proofs.walks.Walks.follows.Goals as goal

pub load-requires : goal.load-requires
load-requires g c =
    let m = c.args.seat.now.me in let w = c.args.self.now in let is = c.requires.key.0 in (
      c.requires.seat.0,
      link-low _ _ _ _ w.table.shared.key.start.value w.sizes w.wide c.requires.link,
      follows _ _ _ _ m _ c.args.link g.K.Key.key (subst (λ k. 0 < k) is c.requires.key.1) c.requires.seat.1 (link-word _ _ _ _ _ w.sizes c.requires.seat.2) (subst (λ k. IsNextLink m.0.start m.0.seen k c.args.link) is c.requires.reached),
    )

pub returns-clause-absent : goal.returns-clause-absent
returns-clause-absent g c z =
    let v = c.args.seat.now.me.0 in
    subst (λ (k : ℕ). IsAbsent v.start v.touched k) (sym c.requires.key.0) (c.load.ensures.2.0 z).1
