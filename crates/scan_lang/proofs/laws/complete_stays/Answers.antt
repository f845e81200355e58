use Rattle.scan_lang.proofs.FrontLemmas.{complete_stays}
use Rattle.scan_lang.proofs.laws.complete_stays.Goals as goal

pub returns : goal.returns
returns c = complete_stays
