use Rattle.fusion_core.proofs.RunLemmas.{stays_whole}
use Rattle.fusion_core.proofs.laws.board_stays_whole.Goals as goal

pub returns : goal.returns
returns c = stays_whole
