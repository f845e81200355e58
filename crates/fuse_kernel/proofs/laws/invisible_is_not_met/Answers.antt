use Rattle.fuse_kernel.proofs.LawLemmas.{invisible_is_not_met}
use Rattle.fuse_kernel.proofs.laws.invisible_is_not_met.Goals as goal

pub returns : goal.returns
returns c = invisible_is_not_met
