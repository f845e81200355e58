use Rattle.fuse_kernel.proofs.LawLemmas.{active_by_met}
use Rattle.fuse_kernel.proofs.laws.met_is_active.Goals as goal

pub returns : goal.returns
returns c = active_by_met
