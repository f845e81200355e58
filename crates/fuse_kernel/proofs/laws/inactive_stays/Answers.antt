use Rattle.fuse_kernel.proofs.LawLemmas.{inactive_stays}
use Rattle.fuse_kernel.proofs.laws.inactive_stays.Goals as goal

pub returns : goal.returns
returns c = inactive_stays
