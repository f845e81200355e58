use Rattle.hash_share.proofs.Events.{look_is_seen, follow_is_seen}
use Rattle.hash_share.proofs.laws.loads_are_steps.Goals as goal

pub returns-clause-key : goal.returns-clause-key
returns-clause-key c = look_is_seen

pub returns-clause-link : goal.returns-clause-link
returns-clause-link c = follow_is_seen
