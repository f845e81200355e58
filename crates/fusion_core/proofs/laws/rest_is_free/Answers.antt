use Rattle.fusion_core.proofs.RestLemmas.{rest_is_free}
use Rattle.fusion_core.proofs.laws.rest_is_free.Goals as goal

pub returns : goal.returns
returns c = rest_is_free
