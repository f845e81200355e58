use Rattle.scan_lang.proofs.FrontLemmas.{entries_stay}
use Rattle.scan_lang.proofs.laws.entries_stay.Goals as goal

pub returns : goal.returns
returns c = entries_stay
