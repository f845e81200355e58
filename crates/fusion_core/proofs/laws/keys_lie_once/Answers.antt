use Rattle.fusion_core.proofs.PlaceLemmas.{keys_lie_once}
use Rattle.fusion_core.proofs.laws.keys_lie_once.Goals as goal

pub returns : goal.returns
returns c = keys_lie_once
