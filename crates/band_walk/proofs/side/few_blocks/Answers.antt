use Rattle.std.proofs.Common.{◌≤◌, arith, subst, sym}
use Rattle.band_walk.proofs.SideLemmas.{below_quotient, twice_small}
use Rattle.band_walk.proofs.side.few_blocks.Goals as goal

pub quotient-requires-clause-small : goal.quotient-requires-clause-small
quotient-requires-clause-small c = twice_small c.args.n c.args.side c.requires.most c.requires.n

pub returns-clause-bound : goal.returns-clause-bound
returns-clause-bound c =
    let below = below_quotient c.args.n c.args.side 75504 (omega (arith, c.requires.least)) (omega (arith, c.requires.least, c.requires.n)) in
    subst (λ z. z ≤ 75503) (sym c.quotient.ensures) (omega (arith, below))
