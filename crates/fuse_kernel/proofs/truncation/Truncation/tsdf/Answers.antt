use Rattle.fuse_kernel.proofs.TruncationLemmas.{tsdf_read}
use Rattle.fuse_kernel.proofs.truncation.Truncation.tsdf.Goals as goal

pub returns-clause-value : goal.returns-clause-value
returns-clause-value c =
    tsdf_read c.args.self.mu c.args.eta c.raised.result c.scaled.result c.lowered.result c.args.self.least c.args.self.most c.ranges.eta
    c.raised.ensures.value c.scaled.ensures.value c.scaled.ensures.bound c.lowered.ensures.value
