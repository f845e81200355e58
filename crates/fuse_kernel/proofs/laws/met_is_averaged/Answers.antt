use Rattle.fuse_kernel.proofs.LawLemmas.{met_is_averaged}
use Rattle.fuse_kernel.proofs.laws.met_is_averaged.Goals as goal

pub returns : goal.returns
returns c = met_is_averaged
