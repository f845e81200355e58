use Rattle.hash_share.proofs.Events.{draw_is_node, store_is_fill}
use Rattle.hash_share.proofs.laws.writes_are_steps.Goals as goal

pub returns-clause-counter : goal.returns-clause-counter
returns-clause-counter c = draw_is_node

pub returns-clause-node : goal.returns-clause-node
returns-clause-node c = store_is_fill
