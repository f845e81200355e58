use Rattle.hash_share.proofs.Events.{weigh_is_none}
use Rattle.hash_share.proofs.Moves.{opens, cuts, joins}
use Rattle.hash_share.proofs.laws.parts_keep_the_rule.Goals as goal

pub returns-clause-start : goal.returns-clause-start
returns-clause-start c = opens

pub returns-clause-split : goal.returns-clause-split
returns-clause-split c = cuts

pub returns-clause-join : goal.returns-clause-join
returns-clause-join c = joins

pub returns-clause-weigh : goal.returns-clause-weigh
returns-clause-weigh c = weigh_is_none
