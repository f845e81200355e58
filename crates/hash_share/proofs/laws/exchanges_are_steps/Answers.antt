use Rattle.hash_share.proofs.Events.{try_is_place_or_seen, hang_is_link_or_seen}
use Rattle.hash_share.proofs.laws.exchanges_are_steps.Goals as goal

pub returns-clause-entry : goal.returns-clause-entry
returns-clause-entry c = try_is_place_or_seen

pub returns-clause-link : goal.returns-clause-link
returns-clause-link c = hang_is_link_or_seen
