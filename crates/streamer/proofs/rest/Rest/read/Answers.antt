use Rattle.std.proofs.Common.{sym, ◌∙◌}
use Rattle.streamer.proofs.Ways.{lent_told, none_told}
use Rattle.streamer.proofs.rest.Rest.read.Goals as goal

pub returns-in-Some-clause-value : goal.returns-in-Some-clause-value
returns-in-Some-clause-value c = sym (lent_told c.args.self.now c.args.key c.in-Some.block.now c.in-Some.ensures.value)

pub returns-else-unpack-clause-value : goal.returns-else-unpack-clause-value
returns-else-unpack-clause-value c = sym (none_told c.args.self.now c.args.key c.in-None.ensures.value (sym c.unpack.ensures.stored ∙ c.if-unpack.false))
