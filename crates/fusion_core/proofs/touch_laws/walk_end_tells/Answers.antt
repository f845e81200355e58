use Rattle.fusion_core.proofs.TouchAbsence.{walk_end_tells}
use Rattle.fusion_core.proofs.touch_laws.walk_end_tells.Goals as goal

pub returns : goal.returns
returns c = walk_end_tells
