use Rattle.fuse_kernel.proofs.LawLemmas.{invisible_stays}
use Rattle.fuse_kernel.proofs.laws.invisible_stays.Goals as goal

pub returns : goal.returns
returns c = invisible_stays
