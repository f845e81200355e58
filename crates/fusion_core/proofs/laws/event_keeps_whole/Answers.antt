use Rattle.fusion_core.proofs.StepLemmas.{step_keeps}
use Rattle.fusion_core.proofs.laws.event_keeps_whole.Goals as goal

pub returns : goal.returns
returns c = step_keeps
