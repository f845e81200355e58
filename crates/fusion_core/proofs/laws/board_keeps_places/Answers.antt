use Rattle.fusion_core.proofs.PlaceLemmas.{keeps_places}
use Rattle.fusion_core.proofs.laws.board_keeps_places.Goals as goal

pub returns : goal.returns
returns c = keeps_places
