use Rattle.fuse_kernel.proofs.LawLemmas.{unmet_stays}
use Rattle.fuse_kernel.proofs.laws.unmet_stays.Goals as goal

pub returns : goal.returns
returns c = unmet_stays
