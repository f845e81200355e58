use Rattle.work_board.proofs.Opening.{start_is_opening}
use Rattle.work_board.proofs.Parts.{join_is_none, split_is_none, weigh_is_none}
use Rattle.work_board.proofs.laws.seats_are_workers.Goals as goal

pub returns-clause-start : goal.returns-clause-start
returns-clause-start c = start_is_opening

pub returns-clause-split : goal.returns-clause-split
returns-clause-split c = split_is_none

pub returns-clause-join : goal.returns-clause-join
returns-clause-join c = join_is_none

pub returns-clause-weigh : goal.returns-clause-weigh
returns-clause-weigh c = weigh_is_none
