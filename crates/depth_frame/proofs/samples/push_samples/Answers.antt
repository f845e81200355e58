use Rattle.std.proofs.Common.{arith}
use Rattle.depth_frame.proofs.RunLemmas.{narrow_all, wide_all}
use Rattle.depth_frame.proofs.samples.push_samples.Goals as goal

pub returns-then-maxval-lt256-clause-all : goal.returns-then-maxval-lt256-clause-all
returns-then-maxval-lt256-clause-all c = λ less. narrow_all c.args.maxval c.args.limit c.push_narrow.result c.args.bytes.now c.if-maxval-lt256.true (rw c.min.ensures at c.push_narrow.ensures.all) (omega (arith, c.push_narrow.ensures.len))

pub returns-clause-all : goal.returns-clause-all
returns-clause-all c = λ less. wide_all c.args.maxval c.args.limit c.push_wide.result c.args.bytes.now c.if-maxval-lt256.false (rw c.min-2.ensures at c.push_wide.ensures.all) (omega (arith, c.push_wide.ensures.len))
