use Rattle.work_board.proofs.Parts.{is_in_one_hand, is_in_one_list}
use Rattle.work_board.proofs.laws.each_is_in_one_place.Goals as goal

pub returns-clause-slots : goal.returns-clause-slots
returns-clause-slots c = is_in_one_hand

pub returns-clause-jobs : goal.returns-clause-jobs
returns-clause-jobs c = is_in_one_list
