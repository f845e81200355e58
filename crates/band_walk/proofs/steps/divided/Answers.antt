use Rattle.std.proofs.Common.{◌/◌, ◌∙◌, ap}
use Rattle.band_walk.proofs.StepLemmas.{share_small, offset_small}
use Rattle.band_walk.proofs.steps.divided.Goals as goal

pub quotient-requires-clause-small : goal.quotient-requires-clause-small
quotient-requires-clause-small c = offset_small c.args.offset c.args.n c.from.result c.from.ensures c.requires.most c.requires.offset

pub returns-clause-bound : goal.returns-clause-bound
returns-clause-bound c = share_small c.args.offset c.args.n c.quotient.result c.requires.least c.requires.offset (c.quotient.ensures ∙ ap (λ z. c.args.offset / z) c.from.ensures)
