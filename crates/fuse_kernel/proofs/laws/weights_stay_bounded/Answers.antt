use Rattle.fuse_kernel.proofs.LawLemmas.{weights_stay_bounded}
use Rattle.fuse_kernel.proofs.laws.weights_stay_bounded.Goals as goal

pub returns : goal.returns
returns c = weights_stay_bounded
