use Rattle.depth_frame.proofs.FrontLemmas.{others_are_inside, others_stay}
use Rattle.depth_frame.proofs.pgm.other_refusals_stay.Goals as goal

pub returns-clause-inside : goal.returns-clause-inside
returns-clause-inside c = others_are_inside

pub returns-clause-stays : goal.returns-clause-stays
returns-clause-stays c = others_stay
