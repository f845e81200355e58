use Rattle.work_board.proofs.Allowed.{claim_is_step, draw_is_step, finish_is_step}
use Rattle.work_board.proofs.laws.words_are_steps.Goals as goal

pub returns-clause-claim : goal.returns-clause-claim
returns-clause-claim c = claim_is_step

pub returns-clause-draw : goal.returns-clause-draw
returns-clause-draw c = draw_is_step

pub returns-clause-finish : goal.returns-clause-finish
returns-clause-finish c = finish_is_step
