use Rattle.std.proofs.Common.{sym, ◌∙◌}
use Rattle.streamer.proofs.Blocks.{get-heap}
use Rattle.raycaster.proofs.last_block.LastBlock.of.Goals as goal

pub returns-clause-looked_up : goal.returns-clause-looked_up
returns-clause-looked_up c = record { is = c.lend.ensures.value ∙ sym (get-heap c.args.rest.now c.args.key) }
