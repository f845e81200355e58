use Rattle.fusion_core.proofs.FuseLemmas.{fuse_is}
use Rattle.fusion_core.proofs.laws.touched_then_updated.Goals as goal

pub returns : goal.returns
returns c = fuse_is
