use Rattle.fusion_core.proofs.HeldLemmas.{in_one_hand}
use Rattle.fusion_core.proofs.laws.slot_is_in_one_hand.Goals as goal

pub returns : goal.returns
returns c = in_one_hand
