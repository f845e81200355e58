use Rattle.std.proofs.Common.{◌<◌, arith, subst, sym}
use Rattle.band_walk.proofs.SideLemmas.{below_quotient, raised_small}
use Rattle.band_walk.proofs.side.whole_blocks.Goals as goal

pub quotient-requires-clause-small : goal.quotient-requires-clause-small
quotient-requires-clause-small c = raised_small c.args.n c.args.side c.requires.most c.requires.n

pub returns-clause-bound : goal.returns-clause-bound
returns-clause-bound c = subst (λ z. z < 65536) (sym c.quotient.ensures) (below_quotient c.args.n c.args.side 65536 (omega (arith, c.requires.least)) c.requires.n)
