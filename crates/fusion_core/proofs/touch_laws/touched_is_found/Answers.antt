use Rattle.fusion_core.proofs.TouchAbsence.{touched_is_found}
use Rattle.fusion_core.proofs.touch_laws.touched_is_found.Goals as goal

pub returns : goal.returns
returns c = touched_is_found
