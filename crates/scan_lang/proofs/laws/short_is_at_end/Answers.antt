use Rattle.scan_lang.proofs.FrontLemmas.{short_is_at_end}
use Rattle.scan_lang.proofs.laws.short_is_at_end.Goals as goal

pub returns : goal.returns
returns c = short_is_at_end
