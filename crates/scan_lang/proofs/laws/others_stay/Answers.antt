use Rattle.scan_lang.proofs.FrontLemmas.{others_are_inside, others_stay}
use Rattle.scan_lang.proofs.laws.others_stay.Goals as goal

pub returns-clause-inside : goal.returns-clause-inside
returns-clause-inside c = others_are_inside

pub returns-clause-stays : goal.returns-clause-stays
returns-clause-stays c = others_stay
