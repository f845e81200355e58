use Rattle.fusion_core.proofs.TouchKept.{step_keeps_rule}
use Rattle.fusion_core.proofs.touch_laws.step_keeps_rule.Goals as goal

pub returns : goal.returns
returns c = step_keeps_rule
