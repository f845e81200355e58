use Rattle.fusion_core.proofs.GivenLemmas.{whole_ends}
use Rattle.fusion_core.proofs.laws.whole_board_ends.Goals as goal

pub returns : goal.returns
returns c = whole_ends
